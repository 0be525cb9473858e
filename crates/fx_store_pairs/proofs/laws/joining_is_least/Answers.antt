-- the law is a lemma at the relations that a test decides
use Rattle.std.proofs.Common.{◌≡◌, ℕ, true}
use Rattle.fx_store_pairs.proofs.Joining.{joined-least}
use Rattle.fx_store_pairs.proofs.laws.joining_is_least.Goals as goal

pub returns : goal.returns
returns c = λ pairs test. joined-least (λ (one other : ℕ). test one other ≡ true) pairs
