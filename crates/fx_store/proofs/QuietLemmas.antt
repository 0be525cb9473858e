-- How a change that marks no name ends: it fails before it is made, wants memory for the reads behind it, or is done.
use Rattle.std.proofs.Common.{◌≡◌, ℕ, ◌+◌, ◌≤◌, Bool, false, List, All, Ok, Err, arith, refl, sym, subst, ap, inl, inr, ◌∙◌}
use Rattle.fx_store_model.specs.declared.changes.Change.{Change}
use Rattle.fx_store_model.specs.declared.changes.Notices.{Notices}
use Rattle.fx_store_model.specs.declared.errors.StoreError.{StoreError}
use Rattle.fx_store_model.specs.declared.errors.StoreError.TheVariants as error
use Rattle.fx_store_model.specs.Applied.{Applied}
use Rattle.fx_store_model.specs.Making.{made}
use Rattle.fx_store_model.specs.Refusals.{IsAllowed, IsChangeAnswer}
use Rattle.fx_store_model.specs.Step.{IsReadSome, Tells, before_reads, cost, due, read_before}
use Rattle.fx_store_model.specs.Stored.{Stored, after_watching}
use Rattle.fx_handles.specs.Living.{Register}
use Rattle.fx_listen.specs.Listening.{Table, living_in}
use Rattle.fx_graph_model.specs.Changes.{State, after_read_all}
use Rattle.fx_graph_model.specs.Unread.{IsClosed}
use Rattle.fx_graph_model.specs.Uses.{unknown_in}
use Rattle.fx_store.specs.Kept.{IsKept, stored_of}
use Rattle.fx_store.specs.Watching.{watch_list}
use Rattle.fx_store.proofs.Ending.{applied_made, applied_short, reads_watching}
use Rattle.fx_store.proofs.Silent.{IsQuiet, quiet_before}
use Rattle.fx_store.proofs.Staying.{known_living}
use Rattle.fx_store.proofs.Stepping.{kept_watched}
use Rattle.fx_store.proofs.Watched.{watch_known, watching_again}

-- the ends of a change

-- memory was wanting, and some names may be read
pub quiet_unmade : (change : Change) (before now : Stored) (cause : StoreError) (evaluated evaluations : ℕ) → IsAllowed change before
    → cause ≡ error.Memory → IsReadSome before now → evaluations ≤ evaluated + read_before change before
    → Applied change before now (Err cause) evaluated evaluations
unfolding cost
quiet_unmade change before now cause evaluated evaluations allowed memory some few =
    subst (λ (c : StoreError). Applied change before now (Err c) evaluated evaluations) (sym memory)
    (applied_short change before now evaluated evaluations allowed (inl some) (omega arith))

-- it was made, and some names were read
pub quiet_short : (change : Change) (before mid now : Stored) (evaluated first second : ℕ) → IsQuiet change before
    → IsAllowed change before → mid ≡ made change before → IsReadSome mid now → first ≤ evaluated + read_before change before → second ≤ first + due mid
    → Applied change before now (Err error.Memory) evaluated second
unfolding cost
quiet_short change before mid now evaluated first second quiet allowed is some one two =
    let same : mid ≡ before_reads change before = is ∙ sym (quiet_before change before quiet) in
    let behind : due mid ≡ due (before_reads change before) = ap due same in
    applied_short change before now evaluated second allowed (inr (allowed, subst (λ (s : Stored). IsReadSome s now) same some))
    (omega arith)

-- it was made, and every watched name was read
pub quiet_made : (change : Change) (before mid now : Stored) (notices : Notices) (evaluated first second : ℕ) → IsQuiet change before
    → mid ≡ made change before → now ≡ after_watching mid → IsChangeAnswer {T = Notices} change before (Ok notices)
    → Tells change before notices → first ≤ evaluated + read_before change before → second ≤ first + due mid
    → Applied change before now (Ok notices) evaluated second
unfolding cost
quiet_made change before mid now notices evaluated first second quiet is read answer tells one two =
    let same : mid ≡ before_reads change before = is ∙ sym (quiet_before change before quiet) in
    let behind : due mid ≡ due (before_reads change before) = ap due same in
    applied_made change before now notices evaluated second answer tells (read ∙ ap after_watching same) (omega arith)

-- reads of every watched name

pub kept_watch_known : (graph : State) (pairs : List (ℕ × ℕ)) (table : Table) (owners : Register) (behind : Bool)
    → IsKept graph pairs table owners behind
    → All (λ (name : ℕ). unknown_in graph.entries name ≡ false) (watch_list pairs (living_in owners.living table.entries))
kept_watch_known graph pairs table owners behind kept =
    watch_known graph.entries pairs (living_in owners.living table.entries) kept.twins
    (known_living graph.entries owners.living table.entries kept.known)

pub caught_up : (graph now : State) (pairs : List (ℕ × ℕ)) (table : Table) (owners : Register) (behind : Bool)
    → IsKept graph pairs table owners behind → now ≡ after_read_all (watch_list pairs (living_in owners.living table.entries)) graph
    → stored_of now pairs table owners ≡ after_watching (stored_of graph pairs table owners)
caught_up graph now pairs table owners behind kept read =
    ap (λ (state : State). stored_of state pairs table owners) read
    ∙ reads_watching graph pairs table owners (watch_list pairs (living_in owners.living table.entries))
    (kept_watched graph pairs table owners behind (watch_list pairs (living_in owners.living table.entries)) kept refl)

-- nothing is due where nothing was left unread
pub all_read_already : (graph : State) (pairs : List (ℕ × ℕ)) (table : Table) (owners : Register) (behind : Bool)
    → IsKept graph pairs table owners behind → behind ≡ false → IsClosed graph.entries graph.unread
    → stored_of graph pairs table owners ≡ after_watching (stored_of graph pairs table owners)
all_read_already graph pairs table owners behind kept none closed =
    sym (watching_again (stored_of graph pairs table owners) (kept.watched none) closed)
