-- What `get` makes of a world, where the property is found.
use Rattle.std.proofs.Common.{◌≡◌, ◌≢◌, ◌≤◌, ◌+◌, List, [], ◌∷◌, ℕ, Bool, false, cond, Option, Some, None, Result, Ok, Err, IfOk, IfErr, OnOk, refl, sym, ap, subst, inl, inr}
use Rattle.fx_base.specs.Answers.{IsAnswer}
use Rattle.fx_base.specs.declared.keys.Name.{Name}
use Rattle.fx_base.specs.declared.values.Value.{Value}
use Rattle.fx_graph_model.specs.declared.entries.Entry.{Entry}
use Rattle.fx_graph_model.specs.declared.errors.GraphError.TheVariants as graph
use Rattle.fx_graph_model.specs.Eager.{eager}
use Rattle.fx_graph_model.specs.Unread.{after_reading, evaluations}
use Rattle.fx_graph_model.specs.Uses.{unknown_in}
use Rattle.fx_store_model.specs.declared.errors.StoreError.{StoreError}
use Rattle.fx_store_model.specs.declared.errors.StoreError.TheVariants as store
use Rattle.fx_store_model.specs.Refusals.{of_graph_refusal, unknown_of}
use Rattle.fx_store_model.specs.Step.{IsReadSome as IsReadSomeIn}
use Rattle.fx_store_model.specs.Stored.{Stored, with_unread}
use Rattle.fx_store_model.proofs.Leaving.{memory_or_not, read_entries}
use Rattle.fx_stage_types.specs.declared.refusals.Refusal.{Refusal}
use Rattle.fx_stage_types.specs.Words.{of_store}
use Rattle.fx_stage_model.specs.Answers.{Taken, and_then, cost_of, quiet}
use Rattle.fx_stage_model.specs.Looking.{find}
use Rattle.fx_stage_model.specs.Properties.{after_read, get}
use Rattle.fx_stage_model.specs.Taking.{IsTaken}
use Rattle.fx_stage_model.specs.World.{World}
use Rattle.fx_stage_words.specs.Told.{told_value_as}

-- of a known property nothing is refused
none_unknown : (entries : List Entry) (name : Name) → unknown_in entries name.0 ≡ false → unknown_of (name ∷ []) entries ≡ None
none_unknown entries name known = ap (λ (b : Bool). of_graph_refusal (cond b (Some (graph.Unknown name)) None)) known

taken_of : World → Name → Taken
taken_of world name =
    record {
      made = world;
      world = after_read name world;
      value = Some (eager world.store.entries name.0);
      notices = quiet;
      warnings = [];
      cost = evaluations world.store.entries name.0 world.store.unread;
    }

pub listeners_kept : (before now : Stored) (name : Name) (answer : Result Value StoreError)
    → OnOk answer (now ≡ with_unread (after_reading before.entries name.0 before.unread) before)
    → IfErr answer (λ (error : StoreError). error ≢ store.Memory → now ≡ before)
    → (answer ≡ Err store.Memory → IsReadSomeIn before now) → now.listeners ≡ before.listeners
listeners_kept before now name (Ok value) ok refused memory = ap (λ (s : Stored). s.listeners) ok
listeners_kept before now name (Err cause) ok refused memory =
    elim (memory_or_not cause) [
      | inl wanting ↦ ap (λ (s : Stored). s.listeners) (memory (ap Err wanting)).rest
      | inr other ↦ ap (λ (s : Stored). s.listeners) (refused other)
    ]

pub get_taken : (path : List (List ℕ)) (world : World) (name : Name) (now : Stored) (answer : Result Value StoreError)
    → find world path ≡ Ok name → unknown_in world.store.entries name.0 ≡ false
    → IsAnswer store.Memory (unknown_of (name ∷ []) world.store.entries) answer
    → IfOk answer (λ (value : Value). value ≡ eager world.store.entries name.0)
    → OnOk answer (now ≡ with_unread (after_reading world.store.entries name.0 world.store.unread) world.store)
    → (answer ≡ Err store.Memory → IsReadSomeIn world.store now)
    → IsTaken (get path world) world (record world { store = now }) (told_value_as answer)
unfolding get taken_of
get_taken path world name now answer here known asked value ok memory =
    subst (λ (r : Result Name Refusal). IsTaken (and_then r (λ (n : Name). Ok (taken_of world n))) world (record world { store = now }) (told_value_as answer))
    (sym here)
    (by_answer answer (subst (λ (o : Option StoreError). IsAnswer store.Memory o answer) (none_unknown world.store.entries name known) asked) value ok memory)
  where
    by_answer : (a : Result Value StoreError) → IsAnswer store.Memory None a
        → IfOk a (λ (v : Value). v ≡ eager world.store.entries name.0)
        → OnOk a (now ≡ with_unread (after_reading world.store.entries name.0 world.store.unread) world.store)
        → (a ≡ Err store.Memory → IsReadSomeIn world.store now)
        → IsTaken (Ok (taken_of world name)) world (record world { store = now }) (told_value_as a)
    by_answer (Ok v) asked is ok memory = (
      ap (λ (s : Stored). record world { store = s }) ok,
      λ i. record { value = Some (is i); notices = quiet; warnings = []; events = [] },
    )
    by_answer (Err cause) asked is ok memory =
        (ap of_store asked, inl (inl (record { rest = refl; store = memory (ap Err asked) })))

pub get_few : (path : List (List ℕ)) (world : World) (name : Name) (old new : ℕ) → find world path ≡ Ok name
    → new ≤ old + evaluations world.store.entries name.0 world.store.unread → new ≤ old + cost_of (get path world)
unfolding get taken_of
get_few path world name old new here few =
    subst (λ (r : Result Name Refusal). new ≤ old + cost_of (and_then r (λ (n : Name). Ok (taken_of world n)))) (sym here) few
