use Rattle.fx_plain_laws.proofs.LoadLemmas.{one_loading}
use Rattle.fx_plain_laws.proofs.laws.files_are_loaded_in_one_way.Goals as goal

pub returns : goal.returns
returns c = one_loading
