use Rattle.fx_explain.proofs.CutLemmas.{cut-first}
use Rattle.fx_explain.proofs.laws.cuts_are_the_first.Goals as goal

pub returns : goal.returns
returns c = cut-first
