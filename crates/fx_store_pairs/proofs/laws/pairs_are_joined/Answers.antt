-- the law is a lemma
use Rattle.fx_store_pairs.proofs.Joining.{joined-pair}
use Rattle.fx_store_pairs.proofs.laws.pairs_are_joined.Goals as goal

pub returns : goal.returns
returns c = joined-pair
