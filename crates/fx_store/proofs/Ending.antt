-- How a change ends: refused, short of memory, or made and read; and what it may cost.
use Rattle.std.proofs.Common.{◌≡◌, ℕ, ◌+◌, ◌≤◌, List, Contains, Ok, Err, arith, refl, sym, subst, ap, inl, inr, ◌∙◌}
use Rattle.fx_store_model.specs.declared.changes.Change.{Change}
use Rattle.fx_store_model.specs.declared.changes.Change.TheVariants.{Set, Publish, Bind, Unbind, Pair, Unpair, Listen, Unlisten, Forget}
use Rattle.fx_store_model.specs.declared.changes.Notices.{Notices}
use Rattle.fx_store_model.specs.declared.errors.StoreError.{StoreError}
use Rattle.fx_store_model.specs.declared.errors.StoreError.TheVariants as error
use Rattle.fx_store_model.specs.Applied.{Applied}
use Rattle.fx_store_model.specs.Refusals.{IsAllowed, IsChangeAnswer, refusal}
use Rattle.fx_store_model.specs.Step.{IsReadSome, IsUnfinished, Tells, after, before_reads, cost, due}
use Rattle.fx_store_model.specs.Stored.{Stored, after_watching, watched_names, with_unread}
use Rattle.fx_handles.specs.Living.{Register}
use Rattle.fx_listen.specs.Listening.{Table, living_in}
use Rattle.fx_graph_model.specs.declared.entries.Entry.{Entry}
use Rattle.fx_graph_model.specs.Changes.{IsSomeRead, State, after_read_all}
use Rattle.fx_graph_model.specs.Unread.{evaluations_of}
use Rattle.fx_graph_model.proofs.ManyReads.{evaluations_same, reads_same}
use Rattle.fx_listen.specs.declared.entries.Listener.{Listener}
use Rattle.fx_store.specs.Kept.{AreOnKnown, ArePaired, stored_of}
use Rattle.fx_store.specs.Watching.{watch_list}
use Rattle.fx_store.proofs.Answering.{ok_as, wanting}
use Rattle.fx_store.proofs.Watched.{watch_watched, watch_within, watched_watch}

-- the state after reads

-- the names that are read are just the watched ones
pub record AreWatched (names : List ℕ) (stored : Stored) : Type 0 where
  pub only : (name : ℕ) → Contains names name → Contains (watched_names stored) name
  pub all : (name : ℕ) → Contains (watched_names stored) name → Contains names name

-- so are those of the list
pub watch_are : (graph : State) (pairs : List (ℕ × ℕ)) (table : Table) (owners : Register) (names : List ℕ)
    → ArePaired graph.entries pairs → AreOnKnown graph.entries (living_in owners.living table.entries)
    → names ≡ watch_list pairs (living_in owners.living table.entries) → AreWatched names (stored_of graph pairs table owners)
watch_are graph pairs table owners names paired known same =
    let heard : List Listener = living_in owners.living table.entries in
    subst (λ ns. AreWatched ns (stored_of graph pairs table owners)) (sym same)
    (record {
      only = λ n c. watch_watched (stored_of graph pairs table owners) n c (watch_within graph.entries pairs heard paired known n c);
      all = watched_watch (stored_of graph pairs table owners);
    })

pub reads_watching : (graph : State) (pairs : List (ℕ × ℕ)) (table : Table) (owners : Register) (names : List ℕ)
    → AreWatched names (stored_of graph pairs table owners)
    → stored_of (after_read_all names graph) pairs table owners ≡ after_watching (stored_of graph pairs table owners)
reads_watching graph pairs table owners names watched =
    let stored : Stored = stored_of graph pairs table owners in
    ap (λ flags. with_unread flags stored)
    (reads_same graph.entries names (watched_names stored) graph.unread watched.only watched.all)

-- all is made and read
pub made_read : (change : Change) (before : Stored) (graph now : State) (pairs : List (ℕ × ℕ)) (table : Table) (owners : Register)
    (names : List ℕ) → stored_of graph pairs table owners ≡ before_reads change before
    → now ≡ after_read_all names graph → AreWatched names (stored_of graph pairs table owners)
    → stored_of now pairs table owners ≡ after change before
made_read change before graph now pairs table owners names made read watched =
    ap (λ (state : State). stored_of state pairs table owners) read
    ∙ reads_watching graph pairs table owners names watched
    ∙ ap after_watching made

-- some names are read, and all else is as it was
pub some_read : (graph now : State) (pairs : List (ℕ × ℕ)) (table : Table) (owners : Register) → IsSomeRead graph now
    → IsReadSome (stored_of graph pairs table owners) (stored_of now pairs table owners)
some_read graph now pairs table owners some = record {
  rest = ap (with_entries_of) some.entries;
  flags = some.flags;
  fewer = some.fewer;
}
  where
    with_entries_of : List Entry → Stored
    with_entries_of entries = record {
      entries = entries;
      unread = now.unread;
      pairs = pairs;
      listeners = living_in owners.living table.entries;
      owners = owners;
      given = table.given;
    }

pub nothing_read : (stored : Stored) → IsReadSome stored stored
nothing_read stored = record { rest = refl; flags = refl; fewer = λ name on. on }

-- memory was wanting before the change was made
pub unmade_as_was : (change : Change) (before now : Stored) → now ≡ before → IsUnfinished change before now
unmade_as_was change before now same = inl (subst (IsReadSome before) (sym same) (nothing_read before))

-- memory was wanting behind the change
pub made_some_read : (change : Change) (before : Stored) (graph now : State) (pairs : List (ℕ × ℕ)) (table : Table) (owners : Register)
    → IsAllowed change before → stored_of graph pairs table owners ≡ before_reads change before → IsSomeRead graph now
    → IsUnfinished change before (stored_of now pairs table owners)
made_some_read change before graph now pairs table owners allowed made some =
    inr (
      allowed,
      subst (λ (stored : Stored). IsReadSome stored (stored_of now pairs table owners)) made
          (some_read graph now pairs table owners some),
    )

-- what it costs

-- what is due is what reads of the watched names may evaluate
pub due_by : (stored : Stored) (graph : State) (pairs : List (ℕ × ℕ)) (table : Table) (owners : Register) (names : List ℕ)
    → stored_of graph pairs table owners ≡ stored → AreWatched names (stored_of graph pairs table owners)
    → evaluations_of graph.entries names graph.unread ≡ due stored
due_by stored graph pairs table owners names same watched =
    evaluations_same graph.entries names (watched_names (stored_of graph pairs table owners)) graph.unread watched.only watched.all
    ∙ ap due same

pub cost_made : (change : Change) (before : Stored) (evaluated first second : ℕ) → first ≤ evaluated + due before
    → second ≤ first + due (before_reads change before) → second ≤ evaluated + cost change before
unfolding cost
cost_made change before evaluated first second one two = omega arith

pub cost_unmade : (change : Change) (before : Stored) (evaluated first : ℕ) → first ≤ evaluated + due before
    → first ≤ evaluated + cost change before
unfolding cost
cost_unmade change before evaluated first one = omega arith

-- the ends

pub memory_answer : (change : Change) (before : Stored) → IsChangeAnswer {T = Notices} change before (Err error.Memory)
memory_answer (Set name value) before = wanting Notices (refusal (Set name value) before)
memory_answer (Publish pairs) before = wanting Notices (refusal (Publish pairs) before)
memory_answer (Bind name expr operands) before = wanting Notices (refusal (Bind name expr operands) before)
memory_answer (Unbind name) before = wanting Notices (refusal (Unbind name) before)
memory_answer (Pair one other) before = wanting Notices (refusal (Pair one other) before)
memory_answer (Unpair one other) before = wanting Notices (refusal (Unpair one other) before)
memory_answer (Listen name kind owner tag) before = wanting Notices (refusal (Listen name kind owner tag) before)
memory_answer (Unlisten name kind owner tag) before = wanting Notices (refusal (Unlisten name kind owner tag) before)
memory_answer (Forget names) before = inr refl

-- an answer without refusal, of one call as of another
pub answer_as : (T U : Type 0) (one : T) (other : U) (change : Change) (before : Stored)
    → IsChangeAnswer {T = T} change before (Ok one) → IsChangeAnswer {T = U} change before (Ok other)
answer_as T U one other (Set name value) before = ok_as T U (refusal (Set name value) before) one other
answer_as T U one other (Publish pairs) before = ok_as T U (refusal (Publish pairs) before) one other
answer_as T U one other (Bind name expr operands) before = ok_as T U (refusal (Bind name expr operands) before) one other
answer_as T U one other (Unbind name) before = ok_as T U (refusal (Unbind name) before) one other
answer_as T U one other (Pair first second) before = ok_as T U (refusal (Pair first second) before) one other
answer_as T U one other (Unpair first second) before = ok_as T U (refusal (Unpair first second) before) one other
answer_as T U one other (Listen name kind owner tag) before = ok_as T U (refusal (Listen name kind owner tag) before) one other
answer_as T U one other (Unlisten name kind owner tag) before = ok_as T U (refusal (Unlisten name kind owner tag) before) one other
answer_as T U one other (Forget names) before = λ answer. answer

-- it was refused, or memory was wanting before anything was looked at
pub step_failed : (change : Change) (before now : Stored) (cause : StoreError) (evaluated : ℕ)
    → IsChangeAnswer {T = Notices} change before (Err cause) → now ≡ before → Applied change before now (Err cause) evaluated evaluated
step_failed change before now cause evaluated answer same = record {
  answer = answer;
  notices = tt;
  ok = tt;
  refused = λ _. same;
  still = λ _. (same, refl);
  memory = λ _. unmade_as_was change before now same;
  evaluations_few = omega arith;
}

pub applied_short : (change : Change) (before now : Stored) (evaluated evaluations : ℕ) → IsAllowed change before
    → IsUnfinished change before now → evaluations ≤ evaluated + cost change before
    → Applied change before now (Err error.Memory) evaluated evaluations
applied_short change before now evaluated evaluations allowed unfinished few = record {
  answer = memory_answer change before;
  notices = tt;
  ok = tt;
  refused = λ other. absurd (other refl);
  still = λ not. absurd (not allowed);
  memory = λ _. unfinished;
  evaluations_few = few;
}

pub applied_made : (change : Change) (before now : Stored) (notices : Notices) (evaluated evaluations : ℕ)
    → IsChangeAnswer {T = Notices} change before (Ok notices) → Tells change before notices → now ≡ after change before
    → evaluations ≤ evaluated + cost change before → Applied change before now (Ok notices) evaluated evaluations
applied_made change before now notices evaluated evaluations answer tells made few = record {
  answer = answer;
  notices = tells;
  ok = made;
  refused = tt;
  still = λ not. absurd (not (answer_as Notices (Unit {0}) notices tt change before answer));
  memory = λ e. absurd (cc);
  evaluations_few = few;
}
