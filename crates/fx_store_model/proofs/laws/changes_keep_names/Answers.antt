use Rattle.fx_store_model.proofs.Leaving.{keeps_names}
use Rattle.fx_store_model.proofs.laws.changes_keep_names.Goals as goal

pub returns : goal.returns
returns c = keeps_names
