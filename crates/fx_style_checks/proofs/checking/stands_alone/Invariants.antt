-- none of the nodes so far has the key, but for the one at the place
use Rattle.std.proofs.Common.{◌≡◌, ◌<◌, ℕ, Some, true}
use Rattle.std.specs.Prelude.{slice_get}
use Rattle.fx_kinds.specs.declared.facts.StyleFacts.{StyleFacts}
use Rattle.fx_style.specs.Kept.{is_key}
use Rattle.fx_style_checks.proofs.checking.stands_alone.Given as goal

abbrev pub invariant-loop-other : goal.invariant-loop-other
invariant-loop-other l =
    (other : ℕ) (b : StyleFacts) → other < l.other → slice_get l.facts other ≡ Some b
    → is_key b.key l.node.key ≡ true → other ≡ l.at
