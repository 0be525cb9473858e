-- no other node has the key of one of those so far
use Rattle.std.proofs.Common.{◌≡◌, ◌<◌, ℕ, Some, true}
use Rattle.std.specs.Prelude.{slice_get}
use Rattle.fx_kinds.specs.declared.facts.StyleFacts.{StyleFacts}
use Rattle.fx_style.specs.Kept.{is_key}
use Rattle.fx_style_checks.proofs.checking.are_different.Given as goal

abbrev pub invariant-loop-at : goal.invariant-loop-at
invariant-loop-at l =
    (i j : ℕ) (a b : StyleFacts) → j < l.at → slice_get l.facts i ≡ Some a → slice_get l.facts j ≡ Some b
    → is_key a.key b.key ≡ true → i ≡ j
