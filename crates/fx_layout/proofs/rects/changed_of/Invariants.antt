use Rattle.std.proofs.Common.{◌≡◌, ◌<◌, ℕ, false, length}
use Rattle.fx_layout_sweeps.specs.Marks.{flag_in}
use Rattle.fx_layout_sweeps.specs.Sweeps.{old_at}
use Rattle.fx_layout.specs.Updates.{rect_at}
use Rattle.fx_layout.proofs.rects.changed_of.Given as goal

abbrev pub invariant-loop-place : goal.invariant-loop-place
invariant-loop-place l =
    (length l.marks ≡ length l.olds)
    × ((p : ℕ) → p < l.place → flag_in l.marks p ≡ false
    → (old_at l.olds p < length l.before) × (rect_at l.rects p ≡ rect_at l.before (old_at l.olds p)))
