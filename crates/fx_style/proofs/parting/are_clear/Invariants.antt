-- none above those so far is marked
use Rattle.std.proofs.Common.{◌≡◌, ℕ, true, false, take}
use Rattle.fx_style.specs.Kept.{is_among}
use Rattle.fx_style.specs.Parting.{is_under}
use Rattle.fx_style.specs.Places.{parent_at}
use Rattle.fx_style.proofs.parting.are_clear.Given as goal

abbrev pub invariant-loop-place : goal.invariant-loop-place
invariant-loop-place l =
    (at : ℕ) → is_among (take l.place-index l.left) at ≡ true → is_under l.there l.facts (parent_at l.facts at) ≡ false
