use Rattle.std.proofs.Common.{ℕ, ◌<◌}
use Rattle.fx_layout.specs.Fits.{AreOthers}
use Rattle.fx_layout.proofs.nodes.are_different.Given as goal

abbrev pub invariant-loop-place : goal.invariant-loop-place
invariant-loop-place l = (p : ℕ) → p < l.place → AreOthers l.nodes p p
