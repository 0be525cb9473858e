-- at every other place so far the given lengths stand
use Rattle.std.proofs.Common.{◌≡◌, ◌<◌, ℕ, false}
use Rattle.std.specs.Prelude.{slice_get}
use Rattle.fx_style.specs.Kept.{is_among}
use Rattle.fx_style.specs.Rewriting.{rewritten_at}
use Rattle.fx_style.proofs.rewriting.places_of_others.Given as goal

abbrev pub invariant-loop-at : goal.invariant-loop-at
invariant-loop-at l =
    (k : ℕ) → k < l.at → is_among l.places.items k ≡ false
    → rewritten_at l.marks l.facts l.looks k ≡ slice_get l.looks k
