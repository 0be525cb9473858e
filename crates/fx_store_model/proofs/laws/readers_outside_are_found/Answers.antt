use Rattle.fx_store_model.proofs.Readers.{outside_is_free}
use Rattle.fx_store_model.proofs.laws.readers_outside_are_found.Goals as goal

pub returns : goal.returns
returns c = outside_is_free
