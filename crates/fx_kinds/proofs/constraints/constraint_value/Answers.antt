use Rattle.std.proofs.Common.{rules}
use Rattle.fx_kinds.specs.ConstraintRows.{constraint_entry}
use Rattle.fx_kinds.proofs.ConstraintLemmas.{out_of_range}
use Rattle.fx_kinds.proofs.constraints.constraint_value.Goals as goal

pub returns-else-is_in_range-clause-none : goal.returns-else-is_in_range-clause-none
returns-else-is_in_range-clause-none c = out_of_range c.args.name.now c.args.text.now (constraint_entry c.in-Some.row) c.in-Some-2.value (search rules) (search rules) (search rules)
