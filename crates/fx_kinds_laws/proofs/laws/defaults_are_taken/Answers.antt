use Rattle.fx_kinds_laws.proofs.Rows.{taken}
use Rattle.fx_kinds_laws.proofs.laws.defaults_are_taken.Goals as goal

pub returns : goal.returns
returns c = taken
