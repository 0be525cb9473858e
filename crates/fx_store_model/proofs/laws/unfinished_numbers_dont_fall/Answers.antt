use Rattle.fx_store_model.proofs.Leaving.{given_unfinished}
use Rattle.fx_store_model.proofs.laws.unfinished_numbers_dont_fall.Goals as goal

pub returns : goal.returns
returns c = given_unfinished
