-- the law is a lemma
use Rattle.fx_store_pairs.proofs.Joining.{joined-walk, walk-joined}
use Rattle.fx_store_pairs.proofs.laws.joined_is_walked.Goals as goal

pub returns : goal.returns
returns c = λ pairs one other. (joined-walk pairs one other, λ walk. walk-joined pairs one walk.0 other walk.1)
