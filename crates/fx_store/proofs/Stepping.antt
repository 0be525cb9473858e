-- A change that marks names, from its steps to all that is said of it: it looks at what is watched, it is made in one call of
-- the graph, and then every watched name is read.
use Rattle.std.proofs.Common.{◌≡◌, ℕ, ◌+◌, ◌≤◌, Bool, List, Ok, Err, None, refl, subst}
use Rattle.fx_store_model.specs.declared.changes.Change.{Change}
use Rattle.fx_store_model.specs.declared.changes.Notices.{Notices}
use Rattle.fx_store_model.specs.declared.errors.StoreError.TheVariants as error
use Rattle.fx_store_model.specs.Applied.{Applied}
use Rattle.fx_store_model.specs.Refusals.{IsAllowed, IsChangeAnswer}
use Rattle.fx_store_model.specs.Step.{added_by, before_reads, changed_notices, due, invalid_notices}
use Rattle.fx_store_model.specs.Stored.{Stored}
use Rattle.fx_handles.specs.Living.{Register}
use Rattle.fx_listen.specs.declared.entries.Listener.{Listener}
use Rattle.fx_listen.specs.Listening.{Table, living_in}
use Rattle.fx_graph_model.specs.declared.entries.Entry.{Entry}
use Rattle.fx_graph_model.specs.Changes.{IsSomeRead, State, after_read_all}
use Rattle.fx_graph_model.specs.Unread.{evaluations_of}
use Rattle.fx_store.specs.Kept.{IsKept, stored_of}
use Rattle.fx_store.specs.Watching.{watch_list}
use Rattle.fx_store.proofs.Ending.{AreWatched, applied_made, applied_short, cost_made, cost_unmade, due_by, made_read, made_some_read, unmade_as_was, watch_are}
use Rattle.fx_store.proofs.Made.{IsMade, tells_made}
use Rattle.fx_store.proofs.Staying.{known_living}

-- the names are those that are watched after the change
pub kept_watched : (graph : State) (pairs : List (ℕ × ℕ)) (table : Table) (owners : Register) (behind : Bool) (names : List ℕ)
    → IsKept graph pairs table owners behind → names ≡ watch_list pairs (living_in owners.living table.entries)
    → AreWatched names (stored_of graph pairs table owners)
kept_watched graph pairs table owners behind names kept same =
    watch_are graph pairs table owners names kept.twins (known_living graph.entries owners.living table.entries kept.known) same

-- what a look at the watched names may evaluate was due
pub kept_due : (graph : State) (pairs : List (ℕ × ℕ)) (table : Table) (owners : Register) (behind : Bool)
    → IsKept graph pairs table owners behind
    → evaluations_of graph.entries (watch_list pairs (living_in owners.living table.entries)) graph.unread
    ≡ due (stored_of graph pairs table owners)
kept_due graph pairs table owners behind kept =
    let names : List ℕ = watch_list pairs (living_in owners.living table.entries) in
    due_by (stored_of graph pairs table owners) graph pairs table owners names refl
    (kept_watched graph pairs table owners behind names kept refl)

-- memory was wanting before the change was made
pub step_unmade : (change : Change) (before now : Stored) (began looked : ℕ) → IsAllowed change before → now ≡ before
    → looked ≤ began + due before → Applied change before now (Err error.Memory) began looked
step_unmade change before now began looked allowed same few =
    applied_short change before now began looked allowed (unmade_as_was change before now same) (cost_unmade change before began looked few)

-- what tells of a change, as a call over the graph says it
pub record AreNotices (before : List Entry) (graph : State) (listeners : List Listener) (notices : Notices) : Type 0 where
  pub added : notices.added ≡ None
  pub invalid : notices.invalid ≡ invalid_notices graph.newly listeners
  pub changed : notices.changed ≡ changed_notices before graph.entries listeners

module _ (change : Change) (before : Stored) (graph now : State) (pairs : List (ℕ × ℕ)) (table : Table) (owners : Register) (names : List ℕ) where
  reads_few : (looked spent : ℕ) → IsMade change before graph pairs table owners
      → AreWatched names (stored_of graph pairs table owners) → spent ≤ looked + evaluations_of graph.entries names graph.unread
      → spent ≤ looked + due (before_reads change before)
  reads_few looked spent is watched cost =
      subst (λ few. spent ≤ looked + few) (due_by (before_reads change before) graph pairs table owners names is.whole watched) cost

  -- all is made, read and told
  pub step_done : (notices : Notices) (began looked spent : ℕ)
      → IsChangeAnswer {T = Notices} change before (Ok notices) → added_by change before ≡ None
      → IsMade change before graph pairs table owners
      → AreWatched names (stored_of graph pairs table owners) → now ≡ after_read_all names graph
      → AreNotices before.entries graph (living_in owners.living table.entries) notices
      → looked ≤ began + due before → spent ≤ looked + evaluations_of graph.entries names graph.unread
      → Applied change before (stored_of now pairs table owners) (Ok notices) began spent
  step_done notices began looked spent answer none is watched read tells look cost =
      applied_made change before (stored_of now pairs table owners) notices began spent answer
      (tells_made change before graph pairs table owners notices is none tells.added tells.invalid tells.changed)
      (made_read change before graph now pairs table owners names is.whole read watched)
      (cost_made change before began looked spent look (reads_few looked spent is watched cost))

  -- memory was wanting behind the change
  pub step_short : (began looked spent : ℕ) → IsAllowed change before → IsMade change before graph pairs table owners
      → AreWatched names (stored_of graph pairs table owners) → IsSomeRead graph now
      → looked ≤ began + due before → spent ≤ looked + evaluations_of graph.entries names graph.unread
      → Applied change before (stored_of now pairs table owners) (Err error.Memory) began spent
  step_short began looked spent allowed is watched some look cost =
      applied_short change before (stored_of now pairs table owners) began spent allowed
      (made_some_read change before graph now pairs table owners allowed is.whole some)
      (cost_made change before began looked spent look (reads_few looked spent is watched cost))
