use Rattle.fx_store_model.proofs.Leaving.{loses_names}
use Rattle.fx_store_model.proofs.laws.forgetting_takes_the_names.Goals as goal

pub returns : goal.returns
returns c = loses_names
