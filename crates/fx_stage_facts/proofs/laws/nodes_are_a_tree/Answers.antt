use Rattle.fx_stage_facts.proofs.LawLemmas.{nodes_hang}
use Rattle.fx_stage_facts.proofs.laws.nodes_are_a_tree.Goals as goal

pub returns : goal.returns
returns c = nodes_hang
