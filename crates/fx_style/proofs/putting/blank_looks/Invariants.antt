use Rattle.std.proofs.Common.{◌≡◌, length}
use Rattle.fx_style.proofs.putting.blank_looks.Given as goal

abbrev pub invariant-loop-place : goal.invariant-loop-place
invariant-loop-place l = length l.looks.items ≡ l.place
