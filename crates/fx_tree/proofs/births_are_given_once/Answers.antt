use Rattle.fx_tree.proofs.History.{each_birth_once}
use Rattle.fx_tree.proofs.births_are_given_once.Goals as goal

pub returns : goal.returns
returns c = each_birth_once
