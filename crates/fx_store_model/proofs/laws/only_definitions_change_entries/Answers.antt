use Rattle.fx_store_model.proofs.Leaving.{same_entries}
use Rattle.fx_store_model.proofs.laws.only_definitions_change_entries.Goals as goal

pub returns : goal.returns
returns c = same_entries
