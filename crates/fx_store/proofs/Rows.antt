-- Declaring properties one after another keeps what is true of the store.
use Rattle.std.proofs.Common.{◌≡◌, ℕ, Bool, List, [], ◌∷◌, take, Result, Ok, Err, OnOk, refl, sym, subst, ap, ◌∙◌}
use Rattle.fx_base.specs.Printing.{kind_of}
use Rattle.fx_base.specs.declared.values.Value.{Value}
use Rattle.fx_graph_model.specs.Changes.{State}
use Rattle.fx_graph.specs.Together.{AreFirstDeclared, after_row, after_rows}
use Rattle.fx_handles.specs.Living.{Register}
use Rattle.fx_listen.specs.Listening.{Table}
use Rattle.fx_store_model.specs.Stored.{Stored}
use Rattle.fx_store.specs.Kept.{IsKept, stored_of}
use Rattle.fx_store.specs.Together.{AreFirstStored, with_all_declared}
use Rattle.fx_store.proofs.KeepLemmas.{kept_declared}

kept_rows : (rows : List (Bool × Value)) (graph : State) (pairs : List (ℕ × ℕ)) (table : Table) (owners : Register)
    (behind : Bool) → IsKept graph pairs table owners behind → IsKept (after_rows rows graph) pairs table owners behind
kept_rows [] graph pairs table owners behind kept = kept
kept_rows (row ∷ rows) graph pairs table owners behind kept =
    kept_rows rows (after_row graph row) pairs table owners behind
    (kept_declared (kind_of row.1) row.0 row.1 graph (after_row graph row) pairs table owners behind refl kept)

pub kept_first : (rows : List (Bool × Value)) (graph now : State) (pairs : List (ℕ × ℕ)) (table : Table) (owners : Register)
    (behind : Bool) → AreFirstDeclared rows graph now → IsKept graph pairs table owners behind
    → IsKept now pairs table owners behind
kept_first rows graph now pairs table owners behind first kept =
    subst (λ (state : State). IsKept state pairs table owners behind) (sym first.first)
    (kept_rows (take first.count rows) graph pairs table owners behind kept)

-- the store sees what the graph declares
pub stored_rows : (rows : List (Bool × Value)) (graph : State) (pairs : List (ℕ × ℕ)) (table : Table) (owners : Register)
    → stored_of (after_rows rows graph) pairs table owners ≡ with_all_declared rows (stored_of graph pairs table owners)
stored_rows [] graph pairs table owners = refl
stored_rows (row ∷ rows) graph pairs table owners = stored_rows rows (after_row graph row) pairs table owners

pub stored_first : (rows : List (Bool × Value)) (graph now : State) (pairs : List (ℕ × ℕ)) (table : Table) (owners : Register)
    → AreFirstDeclared rows graph now
    → AreFirstStored rows (stored_of graph pairs table owners) (stored_of now pairs table owners)
stored_first rows graph now pairs table owners first =
    record {
      count = first.count;
      first = ap (λ (state : State). stored_of state pairs table owners) first.first
          ∙ stored_rows (take first.count rows) graph pairs table owners;
    }

pub stored_ok : {T E : Type 0} (result : Result T E) (rows : List (Bool × Value)) (graph now : State) (pairs : List (ℕ × ℕ))
    (table : Table) (owners : Register) (before : Stored) → stored_of graph pairs table owners ≡ before
    → OnOk result (now ≡ after_rows rows graph)
    → OnOk result (stored_of now pairs table owners ≡ with_all_declared rows before)
stored_ok (Err error) rows graph now pairs table owners before view made = tt
stored_ok (Ok value) rows graph now pairs table owners before view made =
    ap (λ (state : State). stored_of state pairs table owners) made ∙ stored_rows rows graph pairs table owners
    ∙ ap (with_all_declared rows) view
