-- the marks of the places so far
use Rattle.std.proofs.Common.{◌≡◌, ◌↔◌, ◌<◌, ℕ, false, length}
use Rattle.std.specs.Prelude.{slice_get}
use Rattle.fx_layout_sweeps.specs.Marks.{flag_in}
use Rattle.fx_pulse_touched.proofs.comparing.differing_boxes.Given as goal

abbrev pub invariant-loop-place : goal.invariant-loop-place
invariant-loop-place l = (length l.marks.items ≡ l.place)
    × ((k : ℕ) → k < l.place → (flag_in l.marks.items k ≡ false) ↔ (slice_get l.olds k ≡ slice_get l.nodes k))
