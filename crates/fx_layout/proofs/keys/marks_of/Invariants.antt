use Rattle.std.proofs.Common.{◌≡◌, ◌<◌, ℕ, length, take}
use Rattle.fx_layout_sweeps.specs.Marks.{flag_in}
use Rattle.fx_layout.specs.Updates.{is_listed}
use Rattle.fx_layout.proofs.keys.marks_of.Given as goal

abbrev pub invariant-loop-place : goal.invariant-loop-place
invariant-loop-place l =
    (length l.marks ≡ l.count)
    × ((p : ℕ) → p < l.count → flag_in l.marks p ≡ is_listed (take l.place-index l.listed) p)
