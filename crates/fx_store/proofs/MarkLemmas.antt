-- How the changes that mark names end: memory is wanting for the reads behind them, or all is read and told.
use Rattle.std.proofs.Common.{◌≡◌, ℕ, ◌+◌, ◌≤◌, ◌⊎◌, Bool, true, false, not, ◌&&◌, List, None, Ok, Err, arith, refl, sym, ap, inl, inr, ◌∙◌}
use Rattle.std.specs.List.{flat_map}
use Rattle.std.proofs.lemmas.Bool.{both_ways, false_from_ne_true}
use Rattle.fx_base.specs.declared.keys.Name.{Name}
use Rattle.fx_base.specs.declared.values.Value.{Value}
use Rattle.fx_store_model.specs.declared.changes.Change.{Change}
use Rattle.fx_store_model.specs.declared.changes.Notices.{Notices}
use Rattle.fx_store_model.specs.declared.errors.StoreError.TheVariants as error
use Rattle.fx_store_model.specs.Applied.{Applied}
use Rattle.fx_store_model.specs.Step.{invalid_notices}
use Rattle.fx_store_model.specs.Stored.{Stored}
use Rattle.fx_handles.specs.Living.{Register}
use Rattle.fx_listen.specs.Listening.{Table, living_in}
use Rattle.fx_graph_model.specs.declared.entries.Entry.{Entry}
use Rattle.fx_graph_model.specs.Changes.{IsSomeRead, State, after_read_all}
use Rattle.fx_graph_model.specs.Unread.{IsClosed, after_reads, evaluations_of, is_reached, marked}
use Rattle.fx_graph_model.proofs.ManyReads.{evaluations_more, length-reads, marked-reads, reached-at, reached-from, reached-more, reads_by}
use Rattle.fx_graph_model.proofs.Walks.{leads-down}
use Rattle.fx_store.specs.Kept.{IsKept, stored_of}
use Rattle.fx_store.specs.UnderWay.{IsUnderWay}
use Rattle.fx_store.specs.Looking.{IsEnough}
use Rattle.fx_store.specs.Watching.{notice_to, values_of, watch_list}
use Rattle.fx_store.proofs.Ending.{answer_as}
use Rattle.fx_store.proofs.Lasting.{kept_read}
use Rattle.fx_store.proofs.Made.{IsMade}
use Rattle.fx_store.proofs.Stepping.{kept_watched, step_done, step_short}

-- reads of enough names leave what reads of all that are watched leave
enough_reads : (graph : State) (watched names : List ℕ) → IsClosed graph.entries graph.unread → IsEnough graph.unread watched names
    → after_read_all names graph ≡ after_read_all watched graph
enough_reads graph watched names closed enough =
    ap (λ (flags : List Bool). record { entries = graph.entries; unread = flags; newly = graph.newly })
    (reads_by graph.entries watched graph.unread (after_reads graph.entries names graph.unread) (length-reads graph.entries names graph.unread)
    (λ other. marked-reads graph.entries names graph.unread other ∙ same (marked graph.unread other) (is_reached graph.entries names other) (is_reached graph.entries watched other)
    (reached-more graph.entries names watched other enough.only) (back other)))
  where
    same : (a b c : Bool) → (b ≡ true → c ≡ true) → (c ≡ true → (b ≡ true) ⊎ (a ≡ false)) → (a && not b) ≡ (a && not c)
    same false b c there back = refl
    same true true c there back = ap not (sym (there refl))
    same true false false there back = refl
    same true false true there back =
        elim (back refl) [
          | inl on ↦ absurd (both_ways false refl on)
          | inr off ↦ absurd (both_ways true off refl)
        ]

    back : (other : ℕ) → is_reached graph.entries watched other ≡ true → (is_reached graph.entries names other ≡ true) ⊎ (marked graph.unread other ≡ false)
    back other e =
        let from = reached-from graph.entries watched other e in
        elim (enough.all from.0 from.1) [
          | inl c ↦ inl (reached-at graph.entries names from.0 other c from.2)
          | inr off ↦
              inr (leads-down graph.entries (λ (n : ℕ). marked graph.unread n ≡ false) from.0 other off
              (λ a o c fails. false_from_ne_true (marked graph.unread o) (λ on. both_ways _ fails (closed a o c on))) from.2)
        ]

enough_cost : (graph : State) (watched names : List ℕ) (looked spent : ℕ) → IsEnough graph.unread watched names
    → spent ≤ looked + evaluations_of graph.entries names graph.unread → spent ≤ looked + evaluations_of graph.entries watched graph.unread
enough_cost graph watched names looked spent enough cost =
    let most : evaluations_of graph.entries names graph.unread ≤ evaluations_of graph.entries watched graph.unread =
    evaluations_more graph.entries names watched graph.unread enough.only in
    omega arith

pub finish_kept : (graph now : State) (pairs : List (ℕ × ℕ)) (table : Table) (owners : Register) (names : List ℕ)
    → now ≡ after_read_all names graph → IsClosed graph.entries graph.unread → IsKept graph pairs table owners true
    → IsEnough graph.unread (watch_list pairs (living_in owners.living table.entries)) names → IsKept now pairs table owners false
finish_kept graph now pairs table owners names read closed kept enough =
    let watched : List ℕ = watch_list pairs (living_in owners.living table.entries) in
    kept_read pairs table owners graph now true watched kept (λ name c. c) (read ∙ enough_reads graph watched names closed enough)

under_made : (change : Change) (before : Stored) (graph : State) (pairs : List (ℕ × ℕ)) (table : Table) (owners : Register) (names : List ℕ)
    (heard : List (Name × ℕ)) (values : List Value) (began looked : ℕ)
    → IsUnderWay change before graph pairs table owners names heard values began looked → IsMade change before graph pairs table owners
under_made change before graph pairs table owners names heard values began looked under =
    record { whole = under.whole; newly_told = under.newly_told }

pub finish_short : (change : Change) (before : Stored) (graph now : State) (pairs : List (ℕ × ℕ)) (table : Table) (owners : Register)
    (names : List ℕ) (heard : List (Name × ℕ)) (values : List Value) (began looked spent : ℕ) → IsSomeRead graph now
    → spent ≤ looked + evaluations_of graph.entries names graph.unread
    → IsUnderWay change before graph pairs table owners names heard values began looked
    → Applied change before (stored_of now pairs table owners) (Err error.Memory) began spent
finish_short change before graph now pairs table owners names heard values began looked spent some cost under =
    let watched : List ℕ = watch_list pairs (living_in owners.living table.entries) in
    step_short change before graph now pairs table owners watched began looked spent under.allowed
    (under_made change before graph pairs table owners names heard values began looked under)
    (kept_watched graph pairs table owners true watched under.kept refl) some under.few
    (enough_cost graph watched names looked spent under.enough cost)

pub finish_done : (change : Change) (before : Stored) (graph now : State) (pairs : List (ℕ × ℕ)) (table : Table) (owners : Register)
    (names : List ℕ) (heard : List (Name × ℕ)) (values : List Value) (notices : Notices) (began looked spent : ℕ)
    → now ≡ after_read_all names graph → IsClosed graph.entries graph.unread → notices.added ≡ None
    → notices.invalid ≡ invalid_notices graph.newly (living_in owners.living table.entries)
    → ((entries : List Entry) → values ≡ values_of entries heard
    → notices.changed ≡ flat_map (notice_to entries graph.entries) heard)
    → spent ≤ looked + evaluations_of graph.entries names graph.unread
    → IsUnderWay change before graph pairs table owners names heard values began looked
    → Applied change before (stored_of now pairs table owners) (Ok notices) began spent
finish_done change before graph now pairs table owners names heard values notices began looked spent read closed added invalid changed cost under =
    let watched : List ℕ = watch_list pairs (living_in owners.living table.entries) in
    step_done change before graph now pairs table owners watched notices began looked spent
    (answer_as (Unit {0}) Notices tt notices change before under.allowed) under.silent
    (under_made change before graph pairs table owners names heard values began looked under)
    (kept_watched graph pairs table owners true watched under.kept refl) (read ∙ enough_reads graph watched names closed under.enough)
    (record { added = added; invalid = invalid; changed = changed before.entries under.values_before ∙ under.told })
    under.few (enough_cost graph watched names looked spent under.enough cost)
