-- A property that is set to the value that it has: nothing is marked, and none has another value.
use Rattle.std.proofs.Common.{◌≡◌, ℕ, ◌+◌, ◌≤◌, Bool, true, cond, List, [], ◌∷◌, length, None, Ok, Err, arith, sym, subst, ap, inl, inr, ◌∙◌}
use Rattle.std.proofs.lemmas.Bool.{cases_Bool}
use Rattle.fx_base.specs.declared.keys.Name.{Name}
use Rattle.fx_base.specs.declared.values.Value.{Value}
use Rattle.fx_store_model.specs.declared.changes.Change.TheVariants.{Set}
use Rattle.fx_store_model.specs.declared.changes.Notices.{Notices}
use Rattle.fx_store_model.specs.declared.errors.StoreError.{StoreError}
use Rattle.fx_store_model.specs.declared.errors.StoreError.TheVariants as error
use Rattle.fx_store_model.specs.Applied.{Applied}
use Rattle.fx_store_model.specs.Making.{changed_by, made, made_set, with_group}
use Rattle.fx_store_model.specs.Refusals.{of_graph_refusal, refusal}
use Rattle.fx_store_model.specs.Step.{IsReadSome, Tells, due}
use Rattle.fx_store_model.specs.Stored.{Stored, after_watching}
use Rattle.fx_store_model.proofs.Grouping.{IsGroup, entry-group_in, entry-group_out, given_group, length-group}
use Rattle.fx_store_model.proofs.Telling.{changed_none}
use Rattle.fx_handles.specs.Living.{Register}
use Rattle.fx_listen.specs.Listening.{Table, living_in}
use Rattle.fx_store_pairs.specs.Pairs.{group, joined}
use Rattle.fx_graph_model.specs.declared.entries.Entry.{Entry}
use Rattle.fx_graph_model.specs.declared.entries.Definition.TheVariants.{Base}
use Rattle.fx_graph_model.specs.Changes.{State, after_values}
use Rattle.fx_graph_model.specs.Eager.{eager}
use Rattle.fx_graph_model.specs.Equality.{same_value}
use Rattle.fx_graph_model.specs.Refusals.{set_refusal}
use Rattle.fx_graph_model.specs.Uses.{entry_of}
use Rattle.fx_graph_model.proofs.Same.{Decides-value}
use Rattle.fx_graph_model.proofs.Values.{eager-agree}
use Rattle.fx_store.specs.Kept.{AreAllRead, ArePaired, IsKept, stored_of}
use Rattle.fx_store.proofs.Answering.{answer_ok}
use Rattle.fx_store.proofs.EndLemmas.{IsSilent}
use Rattle.fx_store.proofs.Lasting.{kept_set}
use Rattle.fx_store.proofs.Made.{made_set_group}
use Rattle.fx_store.proofs.QuietLemmas.{quiet_made, quiet_short}
use Rattle.fx_store.proofs.Silent.{IsQuiet, quiet_before, quiet_tells}
use Rattle.fx_store.proofs.Stepping.{step_unmade}
use Rattle.fx_store.proofs.Twins.{IsOwn, joined_eager, joined_own, joined_within, own_eager, set_settable, settable_own}
use Rattle.fx_store.proofs.UnderLemmas.{allowed_set}

-- it is unbound and has the value
abbrev pub HasValue : List Entry → ℕ → Value → Type 0
HasValue entries name value = IsOwn entries name × (same_value (eager entries name) value ≡ true)

-- all that are joined with it have its value for their own, before and after
definition_again : (es : List Entry) (pairs : List (ℕ × ℕ)) → ArePaired es pairs → (name : ℕ) (value : Value)
    → HasValue es name value
    → (other : ℕ) → (entry_of (with_group (joined pairs name) value es) other).definition
    ≡ (entry_of es other).definition
definition_again es pairs paired name value has other =
    elim (cases_Bool (joined pairs name other)) [
      | inl together ↦
          let mine : IsOwn es other = joined_own es pairs paired name other together has.0 in
          ap (λ (e : Entry). e.definition)
          (entry-group_in (joined pairs name) value es other (joined_within es pairs paired name other together has.0)
          together)
          ∙ ap (λ (v : Value). Base v)
          (sym ((Decides-value (eager es name) value).0 has.1) ∙ sym (joined_eager es pairs paired name other together)
          ∙ own_eager es other mine)
          ∙ sym mine.has
      | inr apart ↦ ap (λ (e : Entry). e.definition) (entry-group_out (joined pairs name) value es other apart)
    ]

again_eager : (es : List Entry) (pairs : List (ℕ × ℕ)) → ArePaired es pairs → (name : ℕ) (value : Value)
    → HasValue es name value
    → (other : ℕ) → eager (with_group (joined pairs name) value es) other ≡ eager es other
again_eager es pairs paired name value has other =
    eager-agree (with_group (joined pairs name) value es) es (λ _. Unit {0}) (length-group (joined pairs name) value es)
    (λ n _. definition_again es pairs paired name value has n) (λ _ _ _ _. tt) other tt

set_quiet : (name : Name) (value : Value) (stored : Stored) → same_value (eager stored.entries name.0) value ≡ true
    → IsQuiet (Set name value) stored
unfolding changed_by
set_quiet name value stored same = ap (λ (b : Bool). cond b [] (group stored.pairs (length stored.entries) name.0)) same

tells_again : (name : Name) (value : Value) (stored mid : Stored) → mid ≡ made_set name.0 value stored
    → same_value (eager stored.entries name.0) value ≡ true
    → ((other : ℕ) → eager mid.entries other ≡ eager stored.entries other)
    → (notices : Notices) → IsSilent None notices → Tells (Set name value) stored notices
unfolding made
tells_again name value stored mid is same each notices silent =
    quiet_tells (Set name value) stored notices (set_quiet name value stored same)
    (changed_none stored.entries (made (Set name value) stored).entries (made (Set name value) stored).listeners
    (λ l _ _. subst (λ (s : Stored). eager s.entries l.name.0 ≡ eager stored.entries l.name.0) is (each l.name.0)))
    silent.added_is silent.invalid silent.changed

-- what is seen of it
pub record IsGivenAgain
    (before : Stored) (now : State) (pairs : List (ℕ × ℕ)) (table : Table) (owners : Register) (behind : Bool)
    (name : Name) (value : Value)
    : Type 0 where
  pub whole : stored_of now pairs table owners ≡ made_set name.0 value before
  pub values : (other : ℕ) → eager now.entries other ≡ eager before.entries other
  pub holds : IsKept now pairs table owners behind

module _ (graph : State) (pairs : List (ℕ × ℕ)) (table : Table) (owners : Register) (behind : Bool)
    (kept : IsKept graph pairs table owners behind) where
  pub again_made : (name : Name) (value : Value) (values : List (Name × Value))
      → IsGroup values (joined pairs name.0) value graph.entries
      → same_value (eager graph.entries name.0) value ≡ true
      → stored_of (after_values true values graph) pairs table owners
      ≡ made_set name.0 value (stored_of graph pairs table owners)
  unfolding made
  again_made name value values g same =
      (made_set_group graph pairs table owners name value values kept.twins g).whole
      ∙ quiet_before (Set name value) (stored_of graph pairs table owners)
      (set_quiet name value (stored_of graph pairs table owners) same)

  pub again_kept : (now : State) (name : Name) (value : Value) (values : List (Name × Value)) → now
      ≡ after_values true values graph
      → IsGroup values (joined pairs name.0) value graph.entries → same_value (eager graph.entries name.0) value ≡ true
      → IsKept now pairs table owners behind
  again_kept now name value values made g same =
      let k : IsKept (after_values true values graph) pairs table owners true =
      kept_set pairs table owners graph behind kept name.0 value values g in
      let read : (after_values true values graph).unread ≡ graph.unread =
      ap (λ (s : Stored). s.unread) (again_made name value values g same) in
      subst (λ (state : State). IsKept state pairs table owners behind) (sym made)
      (record {
        twins = k.twins;
        few = k.few;
        known = k.known;
        born = k.born;
        watched = λ level.
            subst (λ (flags : List Bool). AreAllRead pairs (living_in owners.living table.entries) flags) (sym read)
            (kept.watched level);
      })

  pub given_again : (before : Stored) (now : State) (name : Name) (value : Value) (values : List (Name × Value))
      → stored_of graph pairs table owners ≡ before
      → set_refusal ((name, value) ∷ []) before.entries ≡ None → same_value (eager before.entries name.0) value ≡ true
      → IsGroup values (joined pairs name.0) value graph.entries → now ≡ after_values true values graph
      → IsGivenAgain before now pairs table owners behind name value
  given_again before now name value values view none same g made =
      let here : same_value (eager graph.entries name.0) value ≡ true =
      subst (λ (s : Stored). same_value (eager s.entries name.0) value ≡ true) (sym view) same in
      let allowed : set_refusal ((name, value) ∷ []) graph.entries ≡ None =
      subst (λ (s : Stored). set_refusal ((name, value) ∷ []) s.entries ≡ None) (sym view) none in
      let has : HasValue graph.entries name.0 value =
      (settable_own graph.entries name.0 value (set_settable graph.entries name value allowed), here) in
      record {
        whole = ap (λ (state : State). stored_of state pairs table owners) made ∙ again_made name value values g here
            ∙ ap (made_set name.0 value) view;
        values = λ other.
            subst (λ (s : Stored). eager now.entries other ≡ eager s.entries other) view
            (subst (λ (state : State). eager state.entries other ≡ eager graph.entries other) (sym made)
            (subst (λ (es : List Entry). eager es other ≡ eager graph.entries other)
            (sym (given_group values (joined pairs name.0) value graph.entries g))
            (again_eager graph.entries pairs kept.twins name.0 value has other)));
        holds = again_kept now name value values made g here;
      }

-- every end

pub again_done : (before mid now : Stored) (name : Name) (value : Value) (notices : Notices) (evaluated spent : ℕ)
    → set_refusal ((name, value) ∷ []) before.entries ≡ None → same_value (eager before.entries name.0) value ≡ true
    → mid ≡ made_set name.0 value before → ((other : ℕ) → eager mid.entries other ≡ eager before.entries other)
    → now ≡ after_watching mid → IsSilent None notices → spent ≤ evaluated + due mid
    → Applied (Set name value) before now (Ok notices) evaluated spent
unfolding made refusal
again_done before mid now name value notices evaluated spent none same is each read silent few =
    quiet_made (Set name value) before mid now notices evaluated evaluated spent
    (set_quiet name value before same) is read
    (answer_ok Notices (of_graph_refusal (set_refusal ((name, value) ∷ []) before.entries)) notices
    (ap of_graph_refusal none))
    (tells_again name value before mid is same each notices silent) (omega arith) few

pub again_short : (before mid now : Stored) (name : Name) (value : Value) (evaluated spent : ℕ)
    → set_refusal ((name, value) ∷ []) before.entries ≡ None → same_value (eager before.entries name.0) value ≡ true
    → mid ≡ made_set name.0 value before → IsReadSome mid now → spent ≤ evaluated + due mid
    → Applied (Set name value) before now (Err error.Memory) evaluated spent
unfolding made
again_short before mid now name value evaluated spent none same is some few =
    quiet_short (Set name value) before mid now evaluated evaluated spent (set_quiet name value before same)
    (allowed_set before name value none) is some (omega arith) few

pub again_unmade : (before now : Stored) (name : Name) (value : Value) (cause : StoreError) (evaluated : ℕ)
    → set_refusal ((name, value) ∷ []) before.entries ≡ None → cause ≡ error.Memory → now ≡ before
    → Applied (Set name value) before now (Err cause) evaluated evaluated
again_unmade before now name value cause evaluated none short same =
    subst (λ (c : StoreError). Applied (Set name value) before now (Err c) evaluated evaluated) (sym short)
    (step_unmade (Set name value) before now evaluated evaluated (allowed_set before name value none) same
    (omega arith))
