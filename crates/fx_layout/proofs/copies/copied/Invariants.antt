use Rattle.std.proofs.Common.{◌≡◌, ◌++◌, length}
use Rattle.fx_layout.proofs.copies.copied.Given as goal

abbrev pub invariant-loop-rest : goal.invariant-loop-rest
invariant-loop-rest g l = l.copy.items ++ l.rest ≡ l.items

abbrev pub decreases-loop-rest : goal.decreases-loop-rest
decreases-loop-rest g l = length l.rest
