-- Sizes that stay are left out of what is published: a property that is given the value that it has already is as it
-- was, and nobody is told.
use Rattle.std.proofs.Common.{◌≡◌, ◌≢◌, ◌∙◌, ◌+◌, ◌||◌, ℕ, Bool, true, false, cond, not, List, [], ◌∷◌, Contains, filter, map, set, None, refl, sym, ap, subst, inl, inr, true≢false}
use Rattle.std.proofs.lemmas.Bool.{cases_Bool, not-false, not_from_true}
use Rattle.std.proofs.lemmas.List.{set-get_or}
use Rattle.std.proofs.lemmas.List.Elements.{All-contains, All-filter}
use Rattle.std.proofs.lemmas.List.Kept.{AllPairs-filter}
use Rattle.fx_base.specs.declared.keys.Name.{Name}
use Rattle.fx_base.specs.declared.values.Value.{Value}
use Rattle.fx_graph_model.specs.declared.entries.Definition.{Definition}
use Rattle.fx_graph_model.specs.declared.entries.Definition.TheVariants.{Base}
use Rattle.fx_graph_model.specs.declared.entries.Entry.{Entry}
use Rattle.fx_graph_model.specs.Changes.{changed, given, with_values}
use Rattle.fx_graph_model.specs.Eager.{eager}
use Rattle.fx_graph_model.specs.Equality.{same_value}
use Rattle.fx_graph_model.specs.Refusals.{read_only_in}
use Rattle.fx_graph_model.specs.Sound.{AreSound}
use Rattle.fx_graph_model.specs.Unread.{newly_marked}
use Rattle.fx_graph_model.specs.Uses.{bound_in, entry_of, nothing, unknown_in}
use Rattle.fx_graph_model.proofs.Changed.{base_definition, known_within}
use Rattle.fx_graph_model.proofs.Given.{Distinct, distinct_first, distinct_rest, targets}
use Rattle.fx_graph_model.proofs.Kept.{eager-own}
use Rattle.fx_graph_model.proofs.Members.{contains_first, contains_later, contains_map}
use Rattle.fx_graph_model.proofs.Ranks.{entry-set_other}
use Rattle.fx_graph_model.proofs.Same.{Decides-value}
use Rattle.fx_store.specs.Own.{has_own}
use Rattle.fx_store_model.specs.declared.changes.Change.TheVariants.{Publish}
use Rattle.fx_store_model.specs.Making.{changed_by, made, with_entries}
use Rattle.fx_store_model.specs.Step.{IsFit, before_reads, changed_notices, cost, due, invalid_notices, marked_by}
use Rattle.fx_store_model.specs.Stored.{Stored, after_watching}
use Rattle.fx_stage_model.specs.Answers.{Taken}
use Rattle.fx_stage_model.specs.World.{World, with_store}
use Rattle.fx_stage_facts.specs.Publishing.{published_by}
use Rattle.fx_stage_facts.specs.Staying.{differing, differs, stays}

abbrev Pair : Type 0
Pair = Name × Value

-- with this value the entry is the one that it was
abbrev IsThere : List Entry → Pair → Type 0
IsThere entries pair = given false pair.1 (entry_of entries pair.0.0) ≡ entry_of entries pair.0.0

same_given : (entry : Entry) (value : Value) → entry.definition ≡ Base value → given false value entry ≡ entry
same_given entry value is = ap (λ (d : Definition). record entry { definition = d }) (sym is)

-- a property that stays is known, and has the value
stays_so : (entries : List Entry) (pair : Pair) → has_own entries pair.0.0 pair.1 ≡ true
    → (unknown_in entries pair.0.0 ≡ false) × (same_value (eager entries pair.0.0) pair.1 ≡ true)
stays_so entries pair is =
    by_test (eager entries pair.0.0) (unknown_in entries pair.0.0) (bound_in entries pair.0.0) is
  where
    by_test : (value : Value) (unknown bound : Bool) → cond (unknown || bound) false (same_value value pair.1) ≡ true
        → (unknown ≡ false) × (same_value value pair.1 ≡ true)
    by_test value true bound so = absurd (true≢false (sym so))
    by_test value false true so = absurd (true≢false (sym so))
    by_test value false false so = (refl, so)

-- values that stand where they are to stand are left out

left_out : (test : Pair → Bool) (pairs : List Pair) (entries : List Entry) → Distinct pairs
    → ((pair : Pair) → Contains pairs pair → test pair ≡ false → IsThere entries pair)
    → with_values false (filter test pairs) entries ≡ with_values false pairs entries
left_out test [] entries distinct there = refl
left_out test (pair ∷ pairs) entries distinct there =
    elim (cases_Bool (test pair)) [
      | inl kept ↦
          ap (λ (b : Bool). with_values false (cond b (pair ∷ filter test pairs) (filter test pairs)) entries) kept
          ∙ left_out test pairs (set entries pair.0.0 (given false pair.1 (entry_of entries pair.0.0)))
          (distinct_rest pair pairs distinct)
          (λ other later off.
          subst (λ (entry : Entry). given false other.1 entry ≡ entry)
          (sym
          (entry-set_other entries pair.0.0 other.0.0 (given false pair.1 (entry_of entries pair.0.0))
          (λ same.
          distinct_first pair pairs distinct
          (subst (Contains (targets pairs)) same (contains_map (λ (p : Pair). p.0.0) pairs other later)))))
          (there other (contains_later pair pairs other later) off))
      | inr dropped ↦
          ap (λ (b : Bool). with_values false (cond b (pair ∷ filter test pairs) (filter test pairs)) entries) dropped
          ∙ left_out test pairs entries (distinct_rest pair pairs distinct)
          (λ other later off. there other (contains_later pair pairs other later) off)
          ∙ ap (with_values false pairs)
          (sym
          (ap (set entries pair.0.0) (there pair (contains_first pair pairs) dropped)
          ∙ set-get_or entries pair.0.0 nothing))
    ]

-- what a later test leaves out anyway may be left out before
pub filter_first : {X : Type 0} (test later : X → Bool) (xs : List X) → ((x : X) → test x ≡ false → later x ≡ false)
    → filter later (filter test xs) ≡ filter later xs
filter_first {X} test later [] out = refl
filter_first {X} test later (x ∷ xs) out =
    elim (cases_Bool (test x)) [
      | inl kept ↦
          ap (λ (b : Bool). filter later (cond b (x ∷ filter test xs) (filter test xs))) kept
          ∙ ap (λ (ps : List X). cond (later x) (x ∷ ps) ps) (filter_first test later xs out)
      | inr dropped ↦
          ap (λ (b : Bool). filter later (cond b (x ∷ filter test xs) (filter test xs))) dropped
          ∙ filter_first test later xs out
          ∙ ap (λ (b : Bool). cond b (x ∷ filter later xs) (filter later xs)) (sym (out x dropped))
    ]

-- what a publication makes and tells hangs on the entries that it makes and on the names that it changes alone

abbrev pub with_changed : World → List Entry → List ℕ → Taken
with_changed world entries names =
    let stored = with_entries entries world.store in
    let marked = marked_by names stored in
    record {
      made = with_store marked world;
      world = with_store (after_watching marked) world;
      value = None;
      notices = record {
        added = None;
        invalid = invalid_notices (newly_marked entries names world.store.unread) world.store.listeners;
        changed = changed_notices world.store.entries entries world.store.listeners;
      };
      warnings = [];
      cost = due world.store + (0 + due marked);
    }

pub published_is : (world : World) (pairs : List Pair)
    → published_by (Publish pairs) world
    ≡ with_changed world (with_values false pairs world.store.entries) (changed pairs world.store.entries)
unfolding made changed_by before_reads cost
published_is world pairs = refl

-- known, only the player writes it
abbrev IsPlayers : List Entry → Pair → Type 0
IsPlayers entries pair = unknown_in entries pair.0.0 ≡ false → read_only_in entries pair.0.0 ≡ true

module _ (store : Stored) (sound : AreSound store.entries) where
  there : (pair : Pair) → IsPlayers store.entries pair → differs store pair ≡ false → IsThere store.entries pair
  there pair players same =
      let so = stays_so store.entries pair (not-false (stays store pair) same) in
      let free = sound.free pair.0.0 (players so.0) in
      let base = base_definition (entry_of store.entries pair.0.0).definition free so.0 in
      let value : base.0 ≡ pair.1 =
      sym (eager-own store.entries pair.0.0 base.0 (known_within store.entries pair.0.0 so.0) base.1)
      ∙ (Decides-value (eager store.entries pair.0.0) pair.1).0 so.1 in
      same_given (entry_of store.entries pair.0.0) pair.1 (base.1 ∙ ap Base value)

  unchanged : (pair : Pair) → differs store pair ≡ false
      → not (same_value (eager store.entries pair.0.0) pair.1) ≡ false
  unchanged pair same =
      not_from_true (same_value (eager store.entries pair.0.0) pair.1)
      (stays_so store.entries pair (not-false (stays store pair) same)).1

  same_entries : (pairs : List Pair) → IsFit (Publish pairs) store
      → with_values false (differing store pairs) store.entries ≡ with_values false pairs store.entries
  same_entries pairs fit =
      left_out (differs store) pairs store.entries fit.0
      (λ pair within. there pair (All-contains (IsPlayers store.entries) pairs pair fit.1 within))

  same_names : (pairs : List Pair) → changed (differing store pairs) store.entries ≡ changed pairs store.entries
  same_names pairs =
      ap (map (λ (pair : Pair). pair.0.0))
      (filter_first (differs store) (λ (pair : Pair). not (same_value (eager store.entries pair.0.0) pair.1)) pairs
      unchanged)

-- fewer pairs fit as well
pub fewer_fit : (store : Stored) (pairs : List Pair) → IsFit (Publish pairs) store
    → IsFit (Publish (differing store pairs)) store
fewer_fit store pairs fit = (
  AllPairs-filter (λ (one other : Pair). one.0 ≢ other.0) (differs store) pairs fit.0,
  All-filter (differs store) (IsPlayers store.entries) pairs fit.1,
)

-- a publication but for what stays is that publication
pub same_published : (world : World) (pairs : List Pair) → AreSound world.store.entries
    → IsFit (Publish pairs) world.store
    → published_by (Publish (differing world.store pairs)) world ≡ published_by (Publish pairs) world
same_published world pairs sound fit =
    published_is world (differing world.store pairs)
    ∙ ap
    (λ (entries : List Entry). with_changed world entries (changed (differing world.store pairs) world.store.entries))
    (same_entries world.store sound pairs fit)
    ∙ ap (with_changed world (with_values false pairs world.store.entries)) (same_names world.store sound pairs)
    ∙ sym (published_is world pairs)
