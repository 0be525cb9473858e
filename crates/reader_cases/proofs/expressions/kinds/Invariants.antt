-- a kind for each value so far
use Rattle.std.proofs.Common.{◌≡◌, length}
use Rattle.reader_cases.proofs.expressions.kinds.Given as goal

abbrev pub invariant-loop-value : goal.invariant-loop-value
invariant-loop-value l = length l.kinds.items ≡ l.value-index
