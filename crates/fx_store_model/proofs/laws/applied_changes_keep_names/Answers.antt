use Rattle.fx_store_model.proofs.Leaving.{keeps_applied}
use Rattle.fx_store_model.proofs.laws.applied_changes_keep_names.Goals as goal

pub returns : goal.returns
returns c = keeps_applied
