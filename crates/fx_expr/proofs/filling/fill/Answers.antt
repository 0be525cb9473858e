-- filling by the tree alone
use Rattle.std.proofs.Common.{◌≡◌, List, length}
use Rattle.std.specs.Bool.{IsTrue}
use Rattle.fx_base.specs.declared.values.Value.{Value}
use Rattle.fx_expr.specs.Tree.{tree, is_within}
use Rattle.fx_expr.specs.Meaning.{mean}
use Rattle.fx_expr.specs.Filling.{merged, unknowns}
use Rattle.fx_expr.proofs.Outcomes.{if_ok}
use Rattle.fx_expr.proofs.FillingLemmas.{filled_within, filled_means}
use Rattle.fx_expr.proofs.filling.fill.Goals as goal

pub returns-clause-within : goal.returns-clause-within
returns-clause-within c =
    if_ok c.filled_with.result _ (λ e. IsTrue (is_within (tree e) (unknowns c.args.known.items))) (rw c.as_slice.ensures.value at c.filled_with.ensures)
    (λ e is. rw is (filled_within c.args.known.items (tree c.args.parsed.expr) c.requires.places))

pub returns-clause-meaning : goal.returns-clause-meaning
returns-clause-meaning c =
    if_ok c.filled_with.result _
    (λ e. (left : List Value) → length left ≡ unknowns c.args.known.items → mean (tree e) left ≡ mean (tree c.args.parsed.expr) (merged c.args.known.items left))
    (rw c.as_slice.ensures.value at c.filled_with.ensures)
    (λ e is left long. rw is (filled_means c.args.known.items left (tree c.args.parsed.expr) c.requires.places long))
