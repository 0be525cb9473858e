use Rattle.fx_kinds.proofs.ConstraintLemmas.{own_name}
use Rattle.fx_kinds.proofs.constraints.each_constraint_named.Goals as goal

pub returns : goal.returns
returns c = own_name
