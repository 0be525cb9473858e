use Rattle.std.proofs.Common.{refl}
use Rattle.fx_kinds.specs.Constraints.{constraints}
use Rattle.fx_kinds.proofs.constraints.constraint_table.Goals as goal

pub returns : goal.returns
unfolding constraints
returns c = refl
