-- the marks after the places so far
use Rattle.std.proofs.Common.{◌≡◌, ◌||◌, ◌&&◌, ◌<◌, ℕ, length, take}
use Rattle.fx_layout_sweeps.specs.Marks.{flag_in}
use Rattle.fx_style.specs.Kept.{is_among}
use Rattle.fx_pulse_touched.proofs.marks.mark_again.Given as goal

abbrev pub invariant-loop-place : goal.invariant-loop-place
invariant-loop-place l = (length l.marks.items ≡ length l.initial.marks.items)
    × ((k : ℕ) → k < length l.initial.marks.items
    → flag_in l.marks.items k
    ≡ ((is_among (take l.place-index l.places) k && flag_in l.others k) || flag_in l.initial.marks.items k))
