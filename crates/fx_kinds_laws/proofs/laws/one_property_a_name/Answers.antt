use Rattle.fx_kinds_laws.proofs.Rows.{one_row, one_listed}
use Rattle.fx_kinds_laws.proofs.laws.one_property_a_name.Goals as goal

pub returns-clause-rows : goal.returns-clause-rows
returns-clause-rows c = one_row

pub returns-clause-listed : goal.returns-clause-listed
returns-clause-listed c = one_listed
