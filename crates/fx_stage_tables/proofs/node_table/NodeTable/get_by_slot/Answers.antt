use Rattle.std.proofs.Common.{◌∙◌, ap, sym}
use Rattle.fx_stage_tables.proofs.TableLemmas.{at_same_key}
use Rattle.fx_stage_tables.specs.Roomy.{Roomy}
use Rattle.fx_stage_tables.proofs.node_table.NodeTable.get_by_slot.Goals as goal

pub returns-in-Some : goal.returns-in-Some
returns-in-Some c =
    at_same_key c.self.inside.nodes.entries c.args.self.now.map (ap (λ (t : Roomy). t.map) c.self.view_is)
    c.in-Some.other.now c.args.key c.in-Some.node.now c.in-Some.ensures.value (sym c.eq.ensures ∙ c.if-eq.true)
