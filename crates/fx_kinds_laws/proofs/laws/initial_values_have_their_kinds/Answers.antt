use Rattle.fx_kinds_laws.proofs.Rows.{kindly, kindly_at}
use Rattle.fx_kinds_laws.proofs.laws.initial_values_have_their_kinds.Goals as goal

pub returns-clause-rows : goal.returns-clause-rows
returns-clause-rows c = kindly

pub returns-clause-listed : goal.returns-clause-listed
returns-clause-listed c = kindly_at
