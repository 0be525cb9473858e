-- the parents of the nodes so far stand before them
use Rattle.std.proofs.Common.{◌≡◌, ◌<◌, ℕ, Some}
use Rattle.std.specs.Prelude.{slice_get}
use Rattle.fx_kinds.specs.declared.facts.StyleFacts.{StyleFacts}
use Rattle.fx_style_checks.proofs.checking.stand_before.Given as goal

abbrev pub invariant-loop-at : goal.invariant-loop-at
invariant-loop-at l =
    (place parent : ℕ) (node : StyleFacts) → place < l.at → slice_get l.facts place ≡ Some node
    → node.parent ≡ Some parent → parent < place
