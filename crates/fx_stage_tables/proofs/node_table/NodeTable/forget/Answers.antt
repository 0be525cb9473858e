use Rattle.std.proofs.Common.{◌∙◌, ap}
use Rattle.std.specs.FinMap.{remove}
use Rattle.fx_events.proofs.Maps.{removed}
use Rattle.fx_stage_tables.specs.Roomy.{Roomy}
use Rattle.fx_stage_tables.proofs.node_table.NodeTable.forget.Goals as goal

pub returns : goal.returns
returns c =
    removed c.self.inside.nodes.entries c.swap_remove.new.self.entries c.args.key c.swap_remove.ensures.updates.0
    ∙ ap (λ (t : Roomy). remove t.map c.args.key) c.self.view_is
