-- A publication of sizes that all stay leaves all but the window and what is read, and tells nobody; and so does the
-- next one.
use Rattle.std.proofs.Common.{◌≡◌, ◌∙◌, ℕ, Bool, true, false, not, ◌&&◌, List, [], ◌∷◌, arith, filter, length, nat_eq, Some, refl, sym, ap, subst}
use Rattle.std.proofs.lemmas.Bool.Decides.{nat_tests}
use Rattle.std.specs.List.{flat_map}
use Rattle.fx_base.specs.declared.keys.Name.{Name}
use Rattle.fx_base.specs.declared.values.Value.{Value}
use Rattle.fx_graph_model.specs.declared.entries.Entry.{Entry}
use Rattle.fx_graph_model.specs.Eager.{eager}
use Rattle.fx_graph_model.specs.Equality.{same_value}
use Rattle.fx_graph_model.specs.Sound.{AreSound}
use Rattle.fx_graph_model.specs.Unread.{after_reads, is_reached, marked}
use Rattle.fx_graph_model.proofs.ManyReads.{marked-reads, reads_by}
use Rattle.fx_graph_model.proofs.Marks.{marking_none, newly_none}
use Rattle.fx_graph_model.proofs.Same.{Decides-value}
use Rattle.fx_store_model.specs.declared.changes.Change.TheVariants.{Publish}
use Rattle.fx_store_model.specs.Step.{changed_notice, changed_notices, invalid_notices}
use Rattle.fx_store_model.specs.Stored.{after_watching, watched_names, with_unread}
use Rattle.fx_stage_model.specs.Answers.{Taken}
use Rattle.fx_stage_model.specs.Sound.{IsSound}
use Rattle.fx_stage_model.specs.World.{World, is_listening, still_written, with_store}
use Rattle.fx_stage_facts.specs.Attached.{display_names, looked}
use Rattle.fx_stage_facts.specs.Publishing.{AreOnce, Size, pairs_of, published, published_by, sized}
use Rattle.fx_stage_facts.specs.Resting.{IsStill, nothing_told}
use Rattle.fx_stage_facts.specs.Staying.{differing}
use Rattle.fx_stage_facts.proofs.PublishLemmas.{publish_fits}
use Rattle.fx_stage_facts.proofs.StayingLemmas.{filter_first, published_is, same_published, with_changed}

-- what was read stays read, whatever is read behind it

read_before : (a x y : Bool) → (((a && not x) && not y) && not x) ≡ ((a && not x) && not y)
read_before true true y = refl
read_before true false true = refl
read_before true false false = refl
read_before false x y = refl

read_twice : (a x : Bool) → ((a && not x) && not x) ≡ (a && not x)
read_twice true true = refl
read_twice true false = refl
read_twice false x = refl

reads_before : (es : List Entry) (names others : List ℕ) (flags : List Bool)
    → after_reads es names (after_reads es others (after_reads es names flags))
    ≡ after_reads es others (after_reads es names flags)
reads_before es names others flags =
    let first = after_reads es names flags in
    let now = after_reads es others first in
    sym
    (reads_by es names now now refl
    (λ other.
    let left : marked now other
    ≡ ((marked flags other && not (is_reached es names other)) && not (is_reached es others other)) =
    marked-reads es others first other
    ∙ ap (λ (b : Bool). b && not (is_reached es others other)) (marked-reads es names flags other) in
    left
    ∙ (sym (read_before (marked flags other) (is_reached es names other) (is_reached es others other))
    ∙ ap (λ (b : Bool). b && not (is_reached es names other)) (sym left))))

reads_twice : (es : List Entry) (names : List ℕ) (flags : List Bool)
    → after_reads es names (after_reads es names flags) ≡ after_reads es names flags
reads_twice es names flags =
    let now = after_reads es names flags in
    sym
    (reads_by es names now now refl
    (λ other.
    let left : marked now other ≡ (marked flags other && not (is_reached es names other)) =
    marked-reads es names flags other in
    left
    ∙ (sym (read_twice (marked flags other) (is_reached es names other))
    ∙ ap (λ (b : Bool). b && not (is_reached es names other)) (sym left))))

-- nobody is told where nothing is made

same_itself : (value : Value) → same_value value value ≡ true
same_itself value = (Decides-value value value).1 refl

flat_none : {X Y : Type 0} (f : X → List Y) (xs : List X) → ((x : X) → f x ≡ []) → flat_map f xs ≡ []
flat_none f [] none = refl
flat_none f (x ∷ xs) none = rw (none x, flat_none f xs none) refl

hushed : (world : World) → (with_changed world world.store.entries []).notices ≡ nothing_told
hushed world =
    let entries = world.store.entries in
    ap
    (λ (names : List ℕ).
    record nothing_told {
      invalid = invalid_notices names world.store.listeners;
      changed = changed_notices entries entries world.store.listeners;
    })
    (newly_none entries world.store.unread)
    ∙ ap (λ (changed : List (Name × ℕ × Value × Value)). record nothing_told { changed = changed })
    (flat_none (changed_notice entries entries) _ (λ listener. rw (same_itself (eager entries listener.name.0)) refl))

-- the world once all that are watched are read
abbrev calm : World → World
calm world = with_store (after_watching world.store) world

calmed : (world : World) → (with_changed world world.store.entries []).world ≡ calm world
calmed world =
    ap (λ (flags : List Bool). with_store (after_watching (with_unread flags world.store)) world)
    (marking_none world.store.entries world.store.unread)

-- the same, in a window
abbrev calm_in : ℕ × ℕ → World → World
calm_in window world = record (calm world) { window = Some window }

calm_twice : (window : ℕ × ℕ) (world : World) → calm_in window (calm_in window world) ≡ calm_in window world
calm_twice window world =
    let settled = calm_in window world in
    ap
    (λ (flags : List Bool).
    record settled {
      store = with_unread flags world.store;
      names = record world.names {
        written = still_written world.store.listeners (still_written world.store.listeners world.names.written);
      };
    })
    (reads_twice world.store.entries (watched_names world.store) world.store.unread)
    ∙ ap
    (λ (written : List (ℕ × List (List ℕ))). record settled { names = record world.names { written = written } })
    (filter_first (λ (entry : ℕ × List (List ℕ)). is_listening world.store.listeners entry.0)
    (λ (entry : ℕ × List (List ℕ)). is_listening world.store.listeners entry.0) world.names.written
    (λ entry off. off))

looked_calm : (window : ℕ × ℕ) (seen : World)
    → looked (calm_in window (looked seen)) ≡ calm_in window (looked seen)
looked_calm window seen =
    ap
    (λ (flags : List Bool).
    record (calm_in window (looked seen)) { store = with_unread flags (looked seen).store })
    (reads_before seen.store.entries (display_names seen) (watched_names seen.store) seen.store.unread)

-- a list of so many is the empty one where these are none
pub nothing_in : {X : Type 0} (xs : List X) (many : ℕ) → many ≡ length xs → nat_eq many 0 ≡ true → xs ≡ []
nothing_in [] many long none = refl
nothing_in (x ∷ xs) many long none = absurd (grind (arith, nat_tests))

-- a publication of which no size is another

nothing_sized : (world : World) (sizes : List Size)
    → IsSound world.store.entries world.graph.table world.names.free → AreSound world.store.entries → AreOnce sizes
    → differing world.store (pairs_of world sizes) ≡ []
    → sized sizes world ≡ with_changed world world.store.entries []
nothing_sized world sizes sound right once none =
    sym (same_published world (pairs_of world sizes) right (publish_fits world sound sizes once))
    ∙ (ap (λ (pairs : List (Name × Value)). published_by (Publish pairs) world) none ∙ published_is world [])

pub still_of : (world now : World) (window : ℕ × ℕ) (sizes : List Size)
    → IsSound world.store.entries world.graph.table world.names.free → AreSound world.store.entries → AreOnce sizes
    → differing world.store (pairs_of world sizes) ≡ [] → now ≡ published window sizes world
    → IsStill window sizes world now
still_of world now window sizes sound right once none is =
    let settled = calm_in window world in
    let in_window : Taken → World = λ taken. record taken.world { window = Some window } in
    let first = nothing_sized world sizes sound right once none in
    let next : sized sizes settled ≡ with_changed settled settled.store.entries [] =
    nothing_sized settled sizes sound right once none in
    let there : now ≡ settled =
    is ∙ (ap in_window first ∙ ap (λ (w : World). record w { window = Some window }) (calmed world)) in
    let again : published window sizes settled ≡ settled =
    ap in_window next
    ∙ (ap (λ (w : World). record w { window = Some window }) (calmed settled) ∙ calm_twice window world) in
    record {
      rest = there
          ∙ ap
          (λ (flags : List Bool).
          record (with_store (with_unread flags world.store) world) { window = Some window })
          (sym (ap (λ (w : World). w.store.unread) there));
      quiet = ap (λ (taken : Taken). taken.notices) first ∙ hushed world;
      read = λ seen was.
          subst (λ (w : World). looked w ≡ w) (sym there)
          (subst (λ (w : World). looked (calm_in window w) ≡ calm_in window w) (sym was) (looked_calm window seen));
      again = subst (λ (w : World). published window sizes w ≡ w) (sym there) again;
      told = subst (λ (w : World). (sized sizes w).notices ≡ nothing_told) (sym there)
          (ap (λ (taken : Taken). taken.notices) next ∙ hushed settled);
    }
