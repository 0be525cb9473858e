use Rattle.std.proofs.Common.{◌∙◌, ap}
use Rattle.std.specs.FinMap.{insert}
use Rattle.fx_events.proofs.Maps.{inserted}
use Rattle.fx_stage_tables.specs.Roomy.{Roomy}
use Rattle.fx_stage_tables.proofs.node_table.NodeTable.put.Goals as goal

pub returns-in-Ok-clause-ok : goal.returns-in-Ok-clause-ok
returns-in-Ok-clause-ok c =
    inserted c.self.inside.nodes.entries c.insert.new.self.entries c.args.key c.args.node c.in-Ok.ensures.updates.0
    ∙ ap (λ (t : Roomy). insert t.map c.args.key c.args.node) c.self.view_is
