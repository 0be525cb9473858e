use Rattle.std.proofs.Common.{◌≡◌, ◌||◌, ◌<◌, ℕ, false, get_or, length, take}
use Rattle.fx_style.specs.Kept.{is_among}
use Rattle.fx_style.proofs.marks.mark_all.Given as goal

abbrev pub invariant-loop-place : goal.invariant-loop-place
invariant-loop-place l = (at : ℕ) → at < length l.initial.marks
    → get_or l.marks at false ≡ (is_among (take l.place-index l.places) at || get_or l.initial.marks at false)
