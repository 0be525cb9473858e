-- What a change leaves of the properties: known names stay, with their kinds and their rights, but those that are
-- forgotten.
use Rattle.std.proofs.Common.{◌≡◌, ◌≢◌, ℕ, ◌+◌, ◌<◌, ◌≤◌, ◌⊎◌, Bool, true, false, not, ◌&&◌, ◌==◌, List, [], ◌∷◌, length, set, Result, Ok, Err, arith, refl, sym, subst, ap, inl, inr, ◌∙◌}
use Rattle.std.proofs.lemmas.Bool.{cases_Bool, cases_eq, cases_lt, cond_both, true≢false}
use Rattle.std.proofs.lemmas.List.{get_or_past, length-set}
use Rattle.fx_base.specs.Names.{numbers}
use Rattle.fx_base.specs.declared.keys.Name.{Name}
use Rattle.fx_base.specs.declared.values.Value.{Value}
use Rattle.fx_expr.specs.Tree.{Tree}
use Rattle.fx_graph_model.specs.declared.entries.Entry.{Entry}
use Rattle.fx_graph_model.specs.Changes.{bound_to, forget_all, given, with_binding, with_values}
use Rattle.fx_graph_model.specs.Eager.{eager}
use Rattle.fx_graph_model.specs.Unread.{after_reading}
use Rattle.fx_graph_model.specs.Uses.{bound_in, entry_of, is_gone, nothing, unknown_in}
use Rattle.fx_graph_model.proofs.Changed.{known_within}
use Rattle.fx_graph_model.proofs.Forgetting.{entry-forget, entry-forget_other, length-forget}
use Rattle.fx_graph_model.proofs.Ranks.{entry-set_other, entry-set_same}
use Rattle.fx_store_model.specs.Applied.{Applied}
use Rattle.fx_store_model.specs.declared.changes.Change.{Change}
use Rattle.fx_store_model.specs.declared.changes.Change.TheVariants.{Set, Publish, Bind, Unbind, Pair, Unpair, Listen, Unlisten, Forget}
use Rattle.fx_store_model.specs.declared.changes.Notices.{Notices}
use Rattle.fx_store_model.specs.declared.errors.StoreError.{StoreError}
use Rattle.fx_store_model.specs.declared.errors.StoreError.TheVariants as error
use Rattle.fx_store_model.specs.Laws.{KeepsNames, LosesNames, defines, takes_away}
use Rattle.fx_store_model.specs.Making.{made, made_unbind, with_group}
use Rattle.fx_store_model.specs.Step.{IsReadSome, IsUnfinished, after, before_reads}
use Rattle.fx_store_model.specs.Stored.{Stored}
use Rattle.fx_store_pairs.specs.Pairs.{joined}
use Rattle.fx_store_model.proofs.Grouping.{entry-group_in, entry-group_out, length-group}
use Rattle.fx_store_model.proofs.Readers.{among_in, among_not}

-- a part of an entry that its new one has as well
part_set : {Y : Type 0} (part : Entry → Y) (es : List Entry) (name : ℕ) (entry : Entry) → part entry ≡ part (entry_of es name)
    → (other : ℕ) → part (entry_of (set es name entry) other) ≡ part (entry_of es other)
part_set {Y} part es name entry same other = by_case (cases_eq other name) (cases_lt other (length es))
  where
    by_case : (other ≡ name) ⊎ (other ≡ name → ⊥) → (other < length es) ⊎ (length es ≤ other)
        → part (entry_of (set es name entry) other) ≡ part (entry_of es other)
    by_case (inr differs) _ = ap part (entry-set_other es name other entry differs)
    by_case (inl here) (inl within) =
        let e : other ≡ name = here in
        ap (λ n. part (entry_of (set es name entry) n)) here
        ∙ ap part (entry-set_same es name entry (omega arith))
        ∙ same
        ∙ ap (λ n. part (entry_of es n)) (sym here)
    by_case (inl here) (inr past) =
        let long : length (set es name entry) ≡ length es = length-set es name entry in
        ap part (get_or_past (set es name entry) other nothing (omega arith) ∙ sym (get_or_past es other nothing past))

part_group : {Y : Type 0} (part : Entry → Y) → ((v : Value) (e : Entry) → part (given true v e) ≡ part e)
    → (test : ℕ → Bool) (value : Value) (es : List Entry) (name : ℕ)
    → part (entry_of (with_group test value es) name) ≡ part (entry_of es name)
part_group {Y} part same test value es name = by_case (cases_Bool (test name)) (cases_lt name (length es))
  where
    by_case : (test name ≡ true) ⊎ (test name ≡ false) → (name < length es) ⊎ (length es ≤ name)
        → part (entry_of (with_group test value es) name) ≡ part (entry_of es name)
    by_case (inr fails) _ = ap part (entry-group_out test value es name fails)
    by_case (inl passes) (inl within) = ap part (entry-group_in test value es name within passes) ∙ same value (entry_of es name)
    by_case (inl passes) (inr past) =
        let long : length (with_group test value es) ≡ length es = length-group test value es in
        ap part (get_or_past (with_group test value es) name nothing (omega arith) ∙ sym (get_or_past es name nothing past))

pub keeps_itself : (es : List Entry) → KeepsNames es es
keeps_itself es = record { count = refl; kinds = λ name. refl; rights = λ name. refl; known = λ name known. known }

pub keeps_onwards : (es fs gs : List Entry) → KeepsNames es fs → KeepsNames fs gs → KeepsNames es gs
keeps_onwards es fs gs one other = record {
  count = other.count ∙ one.count;
  kinds = λ name. other.kinds name ∙ one.kinds name;
  rights = λ name. other.rights name ∙ one.rights name;
  known = λ name known. other.known name (one.known name known);
}

-- the definition of one name
keeps_set : (es : List Entry) (name : ℕ) (entry : Entry) → entry.kind ≡ (entry_of es name).kind
    → entry.read_only ≡ (entry_of es name).read_only → is_gone entry.definition ≡ false → KeepsNames es (set es name entry)
keeps_set es name entry kind rights there = record {
  count = length-set es name entry;
  kinds = part_set (λ (e : Entry). e.kind) es name entry kind;
  rights = part_set (λ (e : Entry). e.read_only) es name entry rights;
  known = known;
}
  where
    known : (other : ℕ) → unknown_in es other ≡ false → unknown_in (set es name entry) other ≡ false
    known other here =
        elim (cases_eq other name) [
          | inl same ↦
              subst (λ n. unknown_in (set es name entry) n ≡ false) (sym same)
              (ap (λ (e : Entry). is_gone e.definition)
              (entry-set_same es name entry (subst (λ n. n < length es) same (known_within es other here))) ∙ there)
          | inr differs ↦ ap (λ (e : Entry). is_gone e.definition) (entry-set_other es name other entry differs) ∙ here
        ]

pub keeps_group : (test : ℕ → Bool) (value : Value) (es : List Entry) → KeepsNames es (with_group test value es)
keeps_group test value es = record {
  count = length-group test value es;
  kinds = part_group (λ (e : Entry). e.kind) (λ v e. refl) test value es;
  rights = part_group (λ (e : Entry). e.read_only) (λ v e. refl) test value es;
  known = known;
}
  where
    known : (name : ℕ) → unknown_in es name ≡ false → unknown_in (with_group test value es) name ≡ false
    known name here =
        elim (cases_Bool (test name)) [
          | inl passes ↦
              ap (λ (e : Entry). is_gone e.definition) (entry-group_in test value es name (known_within es name here) passes)
          | inr fails ↦ ap (λ (e : Entry). is_gone e.definition) (entry-group_out test value es name fails) ∙ here
        ]

pub keeps_values : (sets : Bool) (pairs : List (Name × Value)) (es : List Entry) → KeepsNames es (with_values sets pairs es)
keeps_values sets [] es = keeps_itself es
keeps_values sets (pair ∷ pairs) es =
    let after : List Entry = set es pair.0.0 (given sets pair.1 (entry_of es pair.0.0)) in
    keeps_onwards es after (with_values sets pairs after)
    (keeps_set es pair.0.0 (given sets pair.1 (entry_of es pair.0.0)) refl refl refl) (keeps_values sets pairs after)

pub keeps_bound : (name : ℕ) (expr : Tree) (operands : List ℕ) (es : List Entry) → KeepsNames es (with_binding name expr operands es)
keeps_bound name expr operands es = keeps_set es name (bound_to expr operands (entry_of es name)) refl refl refl

keeps_unbound : (name : ℕ) (stored : Stored) → KeepsNames stored.entries (made_unbind name stored).entries
keeps_unbound name stored =
    cond_both (bound_in stored.entries name)
    (record stored {
      entries = with_group (λ (other : ℕ). other == name) (eager stored.entries name) stored.entries;
      unread = after_reading stored.entries name stored.unread;
    })
    stored (λ (now : Stored). KeepsNames stored.entries now.entries)
    (λ _. keeps_group (λ (other : ℕ). other == name) (eager stored.entries name) stored.entries) (λ _. keeps_itself stored.entries)

keeps_made : (change : Change) (stored : Stored) → takes_away change ≡ false → KeepsNames stored.entries (made change stored).entries
unfolding made
keeps_made (Set name value) stored stays = keeps_group (joined stored.pairs name.0) value stored.entries
keeps_made (Publish pairs) stored stays = keeps_values false pairs stored.entries
keeps_made (Bind name expr operands) stored stays = keeps_bound name.0 expr (numbers operands) stored.entries
keeps_made (Unbind name) stored stays = keeps_unbound name.0 stored
keeps_made (Pair one other) stored stays =
    keeps_group (λ (name : ℕ). joined stored.pairs one.0 name && not (name == other.0)) (eager stored.entries other.0) stored.entries
keeps_made (Unpair one other) stored stays = keeps_itself stored.entries
keeps_made (Listen name kind owner tag) stored stays = keeps_itself stored.entries
keeps_made (Unlisten name kind owner tag) stored stays = keeps_itself stored.entries
keeps_made (Forget names) stored stays = absurd (true≢false stays)

-- before the reads, and so after them
keeps_before : (change : Change) (stored : Stored) → takes_away change ≡ false
    → KeepsNames stored.entries (before_reads change stored).entries
unfolding before_reads
keeps_before change stored stays = keeps_made change stored stays

pub keeps_names : (change : Change) (stored : Stored) → takes_away change ≡ false → KeepsNames stored.entries (after change stored).entries
keeps_names change stored stays = keeps_before change stored stays

pub same_entries : (change : Change) (stored : Stored) → takes_away change ≡ false → defines change ≡ false
    → (after change stored).entries ≡ stored.entries
unfolding before_reads made
same_entries (Set name value) stored stays defined = absurd (true≢false defined)
same_entries (Publish pairs) stored stays defined = absurd (true≢false defined)
same_entries (Bind name expr operands) stored stays defined = absurd (true≢false defined)
same_entries (Unbind name) stored stays defined = absurd (true≢false defined)
same_entries (Pair one other) stored stays defined = absurd (true≢false defined)
same_entries (Unpair one other) stored stays defined = refl
same_entries (Listen name kind owner tag) stored stays defined = refl
same_entries (Unlisten name kind owner tag) stored stays defined = refl
same_entries (Forget names) stored stays defined = absurd (true≢false stays)

-- names that are forgotten

loses_all : (names : List ℕ) (es now : List Entry) → now ≡ forget_all names es → LosesNames names es now
loses_all names es now same = subst (LosesNames names es) (sym same) (record {
  count = length-forget names es;
  gone = λ name e. ap is_gone (entry-forget names es name (among_in names name e));
  others = λ name e. entry-forget_other names es name (among_not names name e);
})

loses_before : (names : List Name) (stored : Stored)
    → LosesNames (numbers names) stored.entries (before_reads (Forget names) stored).entries
unfolding before_reads made
loses_before names stored = loses_all (numbers names) stored.entries (forget_all (numbers names) stored.entries) refl

pub loses_names : (names : List Name) (stored : Stored)
    → LosesNames (numbers names) stored.entries (after (Forget names) stored).entries
loses_names names stored = loses_before names stored

-- the numbers of listeners

most_same : (a b : ℕ) → a ≡ b → a ≤ b
most_same a b e = omega (arith, e)

most_more : (a b : ℕ) → a + 1 ≡ b → a ≤ b
most_more a b e = omega (arith, e)

given_unbound : (name : ℕ) (stored : Stored) → stored.given ≤ (made_unbind name stored).given
given_unbound name stored =
    cond_both (bound_in stored.entries name)
    (record stored {
      entries = with_group (λ (other : ℕ). other == name) (eager stored.entries name) stored.entries;
      unread = after_reading stored.entries name stored.unread;
    })
    stored (λ (now : Stored). stored.given ≤ now.given) (λ _. most_same _ _ refl) (λ _. most_same _ _ refl)

given_before : (change : Change) (stored : Stored) → stored.given ≤ (before_reads change stored).given
unfolding before_reads made
given_before (Set name value) stored = most_same _ _ refl
given_before (Publish pairs) stored = most_same _ _ refl
given_before (Bind name expr operands) stored = most_same _ _ refl
given_before (Unbind name) stored = given_unbound name.0 stored
given_before (Pair one other) stored = most_same _ _ refl
given_before (Unpair one other) stored = most_same _ _ refl
given_before (Listen name kind owner tag) stored = most_more _ _ refl
given_before (Unlisten name kind owner tag) stored = most_same _ _ refl
given_before (Forget names) stored = most_same _ _ refl

pub given_kept : (change : Change) (stored : Stored) → stored.given ≤ (after change stored).given
given_kept change stored = given_before change stored

-- where memory was wanting

pub read_entries : (before now : Stored) → IsReadSome before now → now.entries ≡ before.entries
read_entries before now some = ap (λ (stored : Stored). stored.entries) some.rest

read_given : (before now : Stored) → IsReadSome before now → now.given ≡ before.given
read_given before now some = ap (λ (stored : Stored). stored.given) some.rest

pub keeps_unfinished : (change : Change) (before now : Stored) → takes_away change ≡ false → IsUnfinished change before now
    → KeepsNames before.entries now.entries
keeps_unfinished change before now stays (inl some) =
    subst (KeepsNames before.entries) (sym (read_entries before now some)) (keeps_itself before.entries)
keeps_unfinished change before now stays (inr whole) =
    subst (KeepsNames before.entries) (sym (read_entries (before_reads change before) now whole.1)) (keeps_before change before stays)

pub loses_unfinished : (names : List Name) (before now : Stored) → IsUnfinished (Forget names) before now
    → (now.entries ≡ before.entries) ⊎ LosesNames (numbers names) before.entries now.entries
loses_unfinished names before now (inl some) = inl (read_entries before now some)
loses_unfinished names before now (inr whole) =
    inr
    (subst (LosesNames (numbers names) before.entries) (sym (read_entries (before_reads (Forget names) before) now whole.1))
    (loses_before names before))

pub given_unfinished : (change : Change) (before now : Stored) → IsUnfinished change before now → before.given ≤ now.given
given_unfinished change before now (inl some) =
    let same : now.given ≡ before.given = read_given before now some in
    omega arith
given_unfinished change before now (inr whole) =
    let same : now.given ≡ (before_reads change before).given = read_given (before_reads change before) now whole.1 in
    let less : before.given ≤ (before_reads change before).given = given_before change before in
    omega arith

-- whatever the answer is

pub memory_or_not : (cause : StoreError) → (cause ≡ error.Memory) ⊎ (cause ≢ error.Memory)
memory_or_not (error.Unknown name) = inr (λ e. absurd (cc))
memory_or_not (error.ReadOnly name) = inr (λ e. absurd (cc))
memory_or_not (error.WrongKind name) = inr (λ e. absurd (cc))
memory_or_not (error.Bound name) = inr (λ e. absurd (cc))
memory_or_not (error.Cycle name) = inr (λ e. absurd (cc))
memory_or_not error.Full = inr (λ e. absurd (cc))
memory_or_not (error.InUse name) = inr (λ e. absurd (cc))
memory_or_not error.Same = inr (λ e. absurd (cc))
memory_or_not (error.Mixed name) = inr (λ e. absurd (cc))
memory_or_not error.StaleOwner = inr (λ e. absurd (cc))
memory_or_not error.Memory = inl refl

-- the change is wholly made, nothing is changed, or memory was wanting
pub made_or_not : (change : Change) (before now : Stored) (result : Result Notices StoreError) (evaluated evaluations : ℕ)
    → Applied change before now result evaluated evaluations
    → (now ≡ after change before) ⊎ ((now ≡ before) ⊎ IsUnfinished change before now)
made_or_not change before now (Ok notices) evaluated evaluations a = inl a.ok
made_or_not change before now (Err cause) evaluated evaluations a =
    elim (memory_or_not cause) [
      | inl short ↦ inr (inr (a.memory (ap Err short)))
      | inr other ↦ inr (inl (a.refused other))
    ]

pub keeps_applied : (change : Change) (before now : Stored) (result : Result Notices StoreError) (evaluated evaluations : ℕ)
    → takes_away change ≡ false → Applied change before now result evaluated evaluations → KeepsNames before.entries now.entries
keeps_applied change before now result evaluated evaluations stays a =
    elim (made_or_not change before now result evaluated evaluations a) [
      | inl whole ↦ subst (λ (stored : Stored). KeepsNames before.entries stored.entries) (sym whole) (keeps_names change before stays)
      | inr other ↦ elim other [
        | inl same ↦ subst (λ (stored : Stored). KeepsNames before.entries stored.entries) (sym same) (keeps_itself before.entries)
        | inr short ↦ keeps_unfinished change before now stays short
      ]
    ]

pub given_applied : (change : Change) (before now : Stored) (result : Result Notices StoreError) (evaluated evaluations : ℕ)
    → Applied change before now result evaluated evaluations → before.given ≤ now.given
given_applied change before now result evaluated evaluations a =
    elim (made_or_not change before now result evaluated evaluations a) [
      | inl whole ↦ subst (λ (stored : Stored). before.given ≤ stored.given) (sym whole) (given_kept change before)
      | inr other ↦ elim other [
        | inl same ↦ subst (λ (stored : Stored). before.given ≤ stored.given) (sym same) (most_same _ _ refl)
        | inr short ↦ given_unfinished change before now short
      ]
    ]
