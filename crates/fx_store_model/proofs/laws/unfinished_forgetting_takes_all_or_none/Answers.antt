use Rattle.fx_store_model.proofs.Leaving.{loses_unfinished}
use Rattle.fx_store_model.proofs.laws.unfinished_forgetting_takes_all_or_none.Goals as goal

pub returns : goal.returns
returns c = loses_unfinished
