-- Declaring rows one after another.
use Rattle.std.proofs.Common.{◌≡◌, ◌≤◌, ◌+◌, ℕ, Bool, List, length, take, ap, sym, ◌∙◌}
use Rattle.std.specs.Prelude.{Some, slice_get}
use Rattle.std.proofs.lemmas.List.Sums.{fold_more}
use Rattle.std.proofs.lemmas.Option.{get_or_from_slice_get, slice_get_within}
use Rattle.fx_base.specs.Printing.{kind_of}
use Rattle.fx_base.specs.declared.kinds.Kind.{Kind}
use Rattle.fx_base.specs.declared.values.Value.{Value}
use Rattle.fx_graph_model.specs.Changes.{State, after_declare}
use Rattle.fx_graph.specs.Together.{HasRoom, after_row, after_rows}
use Rattle.fx_graph.specs.Store.{Holds, shown}
use Rattle.fx_graph.specs.declared.lists.Lists.{Lists}

-- so many rows are declared, and there is room for the others
pub record AreRowsSoFar (rows : List (Bool × Value)) (before now : Lists) (place count : ℕ) : Type 0 where
  pub holds : Holds now
  pub declared : shown now ≡ after_rows (take place rows) (shown before)
  pub many : length now.entries.items ≡ length before.entries.items + place
  pub room : (more : ℕ) → place + more ≤ count → HasRoom more now

pub next_row : (rows : List (Bool × Value)) (place : ℕ) (read_only : Bool) (value : Value) (kind : Kind) (before mid now : State)
    → slice_get rows place ≡ Some (read_only, value) → kind ≡ kind_of value
    → mid ≡ after_rows (take place rows) before → now ≡ after_declare kind read_only value mid
    → now ≡ after_rows (take (place + 1) rows) before
next_row rows place read_only value kind before mid now at same mid_is now_is =
    let row : Bool × Value = (read_only, value) in
    now_is ∙ ap (λ (k : Kind). after_declare k read_only value mid) same
    ∙ ap (λ (s : State). after_row s row) mid_is
    ∙ ap (after_row (after_rows (take place rows) before)) (sym (get_or_from_slice_get rows place row row at))
    ∙ sym (fold_more after_row before rows place row (slice_get_within rows place row at))
