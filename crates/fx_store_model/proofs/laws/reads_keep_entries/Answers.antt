use Rattle.fx_store_model.proofs.Leaving.{read_entries}
use Rattle.fx_store_model.proofs.laws.reads_keep_entries.Goals as goal

pub returns : goal.returns
returns c = read_entries
