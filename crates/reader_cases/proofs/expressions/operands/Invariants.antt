-- a value for each path so far
use Rattle.std.proofs.Common.{◌≡◌, length}
use Rattle.reader_cases.proofs.expressions.operands.Given as goal

abbrev pub invariant-loop-path : goal.invariant-loop-path
invariant-loop-path l = length l.values.items ≡ l.path-index
