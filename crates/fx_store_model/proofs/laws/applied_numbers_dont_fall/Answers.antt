use Rattle.fx_store_model.proofs.Leaving.{given_applied}
use Rattle.fx_store_model.proofs.laws.applied_numbers_dont_fall.Goals as goal

pub returns : goal.returns
returns c = given_applied
