-- the law is a lemma
use Rattle.fx_store_pairs.proofs.Joining.{joined-equivalence}
use Rattle.fx_store_pairs.proofs.laws.joining_is_an_equivalence.Goals as goal

pub returns : goal.returns
returns c = joined-equivalence
