-- the keys so far stand at their places
use Rattle.std.proofs.Common.{◌≡◌, ◌<◌, ℕ, Some}
use Rattle.std.specs.Prelude.{slice_get}
use Rattle.fx_kinds.specs.declared.facts.StyleFacts.{StyleFacts}
use Rattle.fx_style.specs.Kept.{place_of_key}
use Rattle.fx_style.proofs.kept.all_stand.Given as goal

abbrev pub invariant-loop-at : goal.invariant-loop-at
invariant-loop-at l =
    (j : ℕ) (node : StyleFacts) → j < l.at → slice_get l.facts j ≡ Some node → place_of_key l.rest node.key ≡ Some j
