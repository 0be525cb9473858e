use Rattle.fx_store_model.proofs.Leaving.{given_kept}
use Rattle.fx_store_model.proofs.laws.numbers_dont_fall.Goals as goal

pub returns : goal.returns
returns c = given_kept
