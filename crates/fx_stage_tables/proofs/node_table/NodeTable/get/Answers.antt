use Rattle.std.proofs.Common.{ap, sym}
use Rattle.fx_stage_tables.proofs.TableLemmas.{at_key}
use Rattle.fx_stage_tables.specs.Roomy.{Roomy}
use Rattle.fx_stage_tables.proofs.node_table.NodeTable.get.Goals as goal

pub returns : goal.returns
returns c =
    sym (at_key c.self.inside.nodes.entries c.args.self.now.map (ap (λ (t : Roomy). t.map) c.self.view_is) c.args.key _ c.get.ensures.value)
