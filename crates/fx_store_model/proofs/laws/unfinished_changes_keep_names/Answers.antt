use Rattle.fx_store_model.proofs.Leaving.{keeps_unfinished}
use Rattle.fx_store_model.proofs.laws.unfinished_changes_keep_names.Goals as goal

pub returns : goal.returns
returns c = keeps_unfinished
