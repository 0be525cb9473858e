use Rattle.fx_kinds.proofs.ConstraintLemmas.{one_value}
use Rattle.fx_kinds.proofs.constraints.one_constraint_value.Goals as goal

pub returns : goal.returns
returns c = one_value
