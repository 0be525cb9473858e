-- the copy so far, and what is left
use Rattle.std.proofs.Common.{◌≡◌, ◌++◌, length}
use Rattle.fx_pulse.proofs.copies.copied.Given as goal

abbrev pub invariant-loop-rest : goal.invariant-loop-rest
invariant-loop-rest l = l.copy.items ++ l.rest ≡ l.rects

abbrev pub decreases-loop-rest : goal.decreases-loop-rest
decreases-loop-rest l = length l.rest
