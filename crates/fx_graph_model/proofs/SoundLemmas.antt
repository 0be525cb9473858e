-- Each change keeps entries sound: values have their kinds, operands are known, and no read-only name is bound.
use Rattle.std.proofs.Common.{◌≡◌, ℕ, ◌+◌, ◌<◌, ◌≤◌, Bool, true, false, List, [], ◌∷◌, ◌++◌, length, map, set, arith, refl, sym, ◌∙◌, ap, subst, inl, inr, ◌⊎◌, Some}
use Rattle.std.specs.List.{Contains}
use Rattle.std.proofs.lemmas.Bool.{cases_lt, cases_eq, both_ways}
use Rattle.std.proofs.lemmas.List.{get_or_past, length_push, get_or_push}
use Rattle.fx_base.specs.Printing.{kind_of}
use Rattle.fx_base.specs.declared.keys.Name.{Name}
use Rattle.fx_base.specs.declared.values.Value.{Value}
use Rattle.fx_expr.specs.Tree.{Tree, is_within}
use Rattle.fx_expr.specs.Typing.{kind_in}
use Rattle.fx_graph_model.specs.declared.entries.Entry.{Entry}
use Rattle.fx_graph_model.specs.declared.entries.Definition.{Definition}
use Rattle.fx_graph_model.specs.declared.entries.Definition.TheVariants.{Base, Bound, Forgotten}
use Rattle.fx_graph_model.specs.Uses.{nothing, entry_of, operands_in, is_binding, is_gone, uses, bound_in, unknown_in, Ranked}
use Rattle.fx_graph_model.specs.Changes.{given, with_values, bound_to, with_binding, forget_all}
use Rattle.fx_graph_model.specs.Refusals.{kind_at, read_only_in, IsFree}
use Rattle.fx_graph_model.specs.Sound.{HasKind, AreSound}
use Rattle.fx_graph_model.proofs.Members.{none_in_nil, map_same, map_contains, cases_contains}
use Rattle.fx_graph_model.proofs.Ranks.{entry-set_same, entry-set_other, uses-declared, uses-set_cases}
use Rattle.fx_graph_model.proofs.Changed.{known_within, entry-declared}
use Rattle.fx_graph_model.proofs.Given.{targets, Distinct, entry-given, entry-given_other, uses-given}
use Rattle.fx_graph_model.proofs.Binding.{kept_entry}
use Rattle.fx_graph_model.proofs.Forgetting.{entry-forget, entry-forget_other, entry-forget_same, uses-forget}
use Rattle.fx_graph_model.proofs.KindLemmas.{eager_sound}

-- a definition has its kind wherever its operands have theirs
pub kind_moved : (es fs : List Entry) (e f : Entry) (d : Definition) → e.kind ≡ f.kind
    → ((o : ℕ) → Contains (operands_in d) o → kind_at fs o ≡ kind_at es o) → HasKind es e d → HasKind fs f d
kind_moved es fs e f (Base value) same kinds has = has ∙ same
kind_moved es fs e f (Bound expr operands) same kinds has =
    (ap (kind_in expr) (map_same (kind_at fs) (kind_at es) operands kinds) ∙ has.0 ∙ ap Some same, has.1)
kind_moved es fs e f Forgotten same kinds has = tt

-- an entry that is as it was
entry_moved : (es fs : List Entry) → ((o : ℕ) → kind_at fs o ≡ kind_at es o) → (name : ℕ) → entry_of fs name ≡ entry_of es name
    → HasKind es (entry_of es name) (entry_of es name).definition → HasKind fs (entry_of fs name) (entry_of fs name).definition
entry_moved es fs kinds name same has =
    let P : Entry → Type 0 = λ e. HasKind fs e e.definition in
    subst P (sym same) (kind_moved es fs (entry_of es name) (entry_of es name) (entry_of es name).definition refl (λ o _. kinds o) has)

pub sound_declared : (es : List Entry) (rank : ℕ → ℕ) → Ranked es rank → AreSound es → (entry : Entry) (value : Value)
    → entry.definition ≡ Base value → kind_of value ≡ entry.kind → AreSound (es ++ entry ∷ [])
sound_declared es rank ranked sound entry value base fits = record {
  kinds = λ name. kinds name (cases_lt name (length es));
  known = λ user used c.
      let old : Contains (uses es user) used = uses-declared es entry none user used c in
      ap (λ (e : Entry). is_gone e.definition) (entry-declared es entry used (ranked.within user used old)) ∙ sound.known user used old;
  free = λ name only. free name only (cases_lt name (length es));
}
  where
    none : operands_in entry.definition ≡ []
    none = ap operands_in base

    last : (name : ℕ) → length es ≤ name → (entry_of (es ++ entry ∷ []) name ≡ entry) ⊎ (entry_of (es ++ entry ∷ []) name ≡ nothing)
    last name past =
        elim (cases_eq (length es) name) [
          | inl here ↦ inl (get_or_push es entry nothing name here)
          | inr above ↦
              let long : length (es ++ entry ∷ []) ≡ length es + 1 = length_push es entry in
              inr (get_or_past (es ++ entry ∷ []) name nothing (omega arith))
        ]

    old_kinds : (name : ℕ) → (o : ℕ) → Contains (uses es name) o → kind_at (es ++ entry ∷ []) o ≡ kind_at es o
    old_kinds name o c = ap (λ (e : Entry). e.kind) (entry-declared es entry o (ranked.within name o c))

    kinds : (name : ℕ) → (name < length es) ⊎ (length es ≤ name)
        → HasKind (es ++ entry ∷ []) (entry_of (es ++ entry ∷ []) name) (entry_of (es ++ entry ∷ []) name).definition
    kinds name (inl low) =
        let P : Entry → Type 0 = λ e. HasKind (es ++ entry ∷ []) e e.definition in
        subst P (sym (entry-declared es entry name low))
        (kind_moved es (es ++ entry ∷ []) (entry_of es name) (entry_of es name) (entry_of es name).definition refl
        (old_kinds name) (sound.kinds name))
    kinds name (inr past) =
        let P : Entry → Type 0 = λ e. HasKind (es ++ entry ∷ []) e e.definition in
        let Q : Definition → Type 0 = λ d. HasKind (es ++ entry ∷ []) entry d in
        elim (last name past) [
          | inl here ↦ subst P (sym here) (subst Q (sym base) fits)
          | inr above ↦ subst P (sym above) tt
        ]

    free : (name : ℕ) → read_only_in (es ++ entry ∷ []) name ≡ true → (name < length es) ⊎ (length es ≤ name)
        → bound_in (es ++ entry ∷ []) name ≡ false
    free name only (inl low) =
        ap (λ (e : Entry). is_binding e.definition) (entry-declared es entry name low)
        ∙ sound.free name (sym (ap (λ (e : Entry). e.read_only) (entry-declared es entry name low)) ∙ only)
    free name only (inr past) =
        elim (last name past) [
          | inl here ↦ ap (λ (e : Entry). is_binding e.definition) here ∙ ap is_binding base
          | inr above ↦ ap (λ (e : Entry). is_binding e.definition) above
        ]

pub kind-given : (sets : Bool) (pairs : List (Name × Value)) (es : List Entry) → Distinct pairs
    → ((p : Name × Value) → Contains pairs p → unknown_in es p.0.0 ≡ false)
    → (name : ℕ) → kind_at (with_values sets pairs es) name ≡ kind_at es name
kind-given sets pairs es distinct known name =
    elim (cases_contains (targets pairs) name) [
      | inl member ↦
          let found = map_contains (λ (p : Name × Value). p.0.0) pairs name member in
          let P : ℕ → Type 0 = λ n. kind_at (with_values sets pairs es) n ≡ kind_at es n in
          subst P found.2
          (ap (λ (e : Entry). e.kind)
          (entry-given sets pairs es distinct (λ p c. known_within es p.0.0 (known p c)) found.0 found.1))
      | inr out ↦ ap (λ (e : Entry). e.kind) (entry-given_other sets pairs es name out)
    ]

pub sound_given : (sets : Bool) (pairs : List (Name × Value)) (es : List Entry) → AreSound es → Distinct pairs
    → ((p : Name × Value) → Contains pairs p → (unknown_in es p.0.0 ≡ false) × (kind_of p.1 ≡ kind_at es p.0.0))
    → AreSound (with_values sets pairs es)
sound_given sets pairs es sound distinct fits = record {
  kinds = λ name. kinds name (cases_contains (targets pairs) name);
  known = λ user used c. known user used c (cases_contains (targets pairs) used);
  free = λ name only. free name only (cases_contains (targets pairs) name);
}
  where
    here : (name : ℕ) → Contains (targets pairs) name
        → (p : Name × Value) × (kind_of p.1 ≡ kind_at es name) × (entry_of (with_values sets pairs es) name ≡ given sets p.1 (entry_of es name))
    here name member =
        let found = map_contains (λ (p : Name × Value). p.0.0) pairs name member in
        let P : ℕ → Type 0 = λ n. (kind_of found.0.1 ≡ kind_at es n)
        × (entry_of (with_values sets pairs es) n ≡ given sets found.0.1 (entry_of es n)) in
        let both = subst P found.2 (
          (fits found.0 found.1).1,
          entry-given sets pairs es distinct (λ p c. known_within es p.0.0 (fits p c).0) found.0 found.1,
        ) in
        (found.0, both.0, both.1)

    kinds : (name : ℕ) → Contains (targets pairs) name ⊎ (Contains (targets pairs) name → ⊥)
        → HasKind (with_values sets pairs es) (entry_of (with_values sets pairs es) name) (entry_of (with_values sets pairs es) name).definition
    kinds name (inl member) =
        let p = here name member in
        let P : Entry → Type 0 = λ e. HasKind (with_values sets pairs es) e e.definition in
        subst P (sym p.2) p.1
    kinds name (inr out) =
        entry_moved es (with_values sets pairs es) (kind-given sets pairs es distinct (λ p c. (fits p c).0)) name
        (entry-given_other sets pairs es name out) (sound.kinds name)

    known : (user used : ℕ) → Contains (uses (with_values sets pairs es) user) used
        → Contains (targets pairs) used ⊎ (Contains (targets pairs) used → ⊥) → unknown_in (with_values sets pairs es) used ≡ false
    known user used c (inl member) = ap (λ (e : Entry). is_gone e.definition) (here used member).2
    known user used c (inr out) =
        ap (λ (e : Entry). is_gone e.definition) (entry-given_other sets pairs es used out)
        ∙ sound.known user used (uses-given sets pairs es user used c)

    free : (name : ℕ) → read_only_in (with_values sets pairs es) name ≡ true
        → Contains (targets pairs) name ⊎ (Contains (targets pairs) name → ⊥) → bound_in (with_values sets pairs es) name ≡ false
    free name only (inl member) = ap (λ (e : Entry). is_binding e.definition) (here name member).2
    free name only (inr out) =
        ap (λ (e : Entry). is_binding e.definition) (entry-given_other sets pairs es name out)
        ∙ sound.free name (sym (ap (λ (e : Entry). e.read_only) (entry-given_other sets pairs es name out)) ∙ only)

-- an entry of the same kind is written at a known name
sound_written : (es : List Entry) → AreSound es → (name : ℕ) (entry : Entry) → name < length es
    → entry.kind ≡ kind_at es name → entry.read_only ≡ read_only_in es name → is_gone entry.definition ≡ false
    → HasKind es entry entry.definition
    → ((o : ℕ) → Contains (operands_in entry.definition) o → unknown_in es o ≡ false)
    → (entry.read_only ≡ true → is_binding entry.definition ≡ false)
    → AreSound (set es name entry)
sound_written es sound name entry within same access stays has operands free_entry = record {
  kinds = λ other. kinds other (cases_eq other name);
  known = λ user used c. known used (uses-set_cases es name entry user used c) (cases_eq used name);
  free = λ other only. free other only (cases_eq other name);
}
  where
    here : entry_of (set es name entry) name ≡ entry
    here = entry-set_same es name entry within

    kind_kept : (other : ℕ) → kind_at (set es name entry) other ≡ kind_at es other
    kind_kept other =
        elim (cases_eq other name) [
          | inl e ↦ ap (kind_at (set es name entry)) e ∙ ap (λ (d : Entry). d.kind) here ∙ same ∙ ap (kind_at es) (sym e)
          | inr differs ↦ ap (λ (d : Entry). d.kind) (entry-set_other es name other entry differs)
        ]

    kinds : (other : ℕ) → (other ≡ name) ⊎ (other ≡ name → ⊥)
        → HasKind (set es name entry) (entry_of (set es name entry) other) (entry_of (set es name entry) other).definition
    kinds other (inl e) =
        let P : Entry → Type 0 = λ d. HasKind (set es name entry) d d.definition in
        subst P (sym (ap (entry_of (set es name entry)) e ∙ here))
        (kind_moved es (set es name entry) entry entry entry.definition refl (λ o _. kind_kept o) has)
    kinds other (inr differs) =
        entry_moved es (set es name entry) kind_kept other (entry-set_other es name other entry differs) (sound.kinds other)

    was_known : (user used : ℕ)
        → ((user ≡ name) × Contains (operands_in entry.definition) used) ⊎ ((user ≡ name → ⊥) × Contains (uses es user) used)
        → unknown_in es used ≡ false
    was_known user used (inl new) = operands used new.1
    was_known user used (inr old) = sound.known user used old.1

    known : {user : ℕ} (used : ℕ)
        → ((user ≡ name) × Contains (operands_in entry.definition) used) ⊎ ((user ≡ name → ⊥) × Contains (uses es user) used)
        → (used ≡ name) ⊎ (used ≡ name → ⊥) → unknown_in (set es name entry) used ≡ false
    known used use_of (inl e) = ap (λ (d : Entry). is_gone d.definition) (ap (entry_of (set es name entry)) e ∙ here) ∙ stays
    known {user} used use_of (inr differs) =
        ap (λ (d : Entry). is_gone d.definition) (entry-set_other es name used entry differs) ∙ was_known user used use_of

    free : (other : ℕ) → read_only_in (set es name entry) other ≡ true → (other ≡ name) ⊎ (other ≡ name → ⊥)
        → bound_in (set es name entry) other ≡ false
    free other only (inl e) =
        let is : entry_of (set es name entry) other ≡ entry = ap (entry_of (set es name entry)) e ∙ here in
        ap (λ (d : Entry). is_binding d.definition) is ∙ free_entry (sym (ap (λ (d : Entry). d.read_only) is) ∙ only)
    free other only (inr differs) =
        ap (λ (d : Entry). is_binding d.definition) (entry-set_other es name other entry differs)
        ∙ sound.free other (sym (ap (λ (d : Entry). d.read_only) (entry-set_other es name other entry differs)) ∙ only)

pub sound_bound : (es : List Entry) → AreSound es → (name : ℕ) (expr : Tree) (operands : List ℕ)
    → unknown_in es name ≡ false → read_only_in es name ≡ false
    → kind_in expr (map (kind_at es) operands) ≡ Some (kind_at es name) → is_within expr (length operands) ≡ true
    → ((o : ℕ) → Contains operands o → unknown_in es o ≡ false)
    → AreSound (with_binding name expr operands es)
sound_bound es sound name expr operands known access kinds places operands_known =
    sound_written es sound name (bound_to expr operands (entry_of es name)) (known_within es name known) refl refl refl
    (kinds, places) operands_known (λ only. absurd (both_ways _ access only))

pub sound_unbound : (es : List Entry) (rank : ℕ → ℕ) → Ranked es rank → AreSound es → (name : ℕ) → unknown_in es name ≡ false
    → AreSound (set es name (kept_entry es name))
sound_unbound es rank ranked sound name known =
    sound_written es sound name (kept_entry es name) (known_within es name known) refl refl refl
    (eager_sound es rank ranked sound name known) (λ o c. absurd (none_in_nil o c)) (λ _. refl)

pub sound_forget : (names : List ℕ) (es : List Entry) → AreSound es → IsFree names es → AreSound (forget_all names es)
sound_forget names es sound free_names = record {
  kinds = λ name. kinds name (cases_contains names name);
  known = known;
  free = λ name only. free name only (cases_contains names name);
}
  where
    kind_kept : (o : ℕ) → kind_at (forget_all names es) o ≡ kind_at es o
    kind_kept o = entry-forget_same (λ (e : Entry). e.kind) (λ e. refl) names es o

    kinds : (name : ℕ) → Contains names name ⊎ (Contains names name → ⊥)
        → HasKind (forget_all names es) (entry_of (forget_all names es) name) (entry_of (forget_all names es) name).definition
    kinds name (inl member) =
        let Q : Definition → Type 0 = λ d. HasKind (forget_all names es) (entry_of (forget_all names es) name) d in
        subst Q (sym (entry-forget names es name member)) tt
    kinds name (inr out) =
        entry_moved es (forget_all names es) kind_kept name (entry-forget_other names es name out) (sound.kinds name)

    known : (user used : ℕ) → Contains (uses (forget_all names es) user) used → unknown_in (forget_all names es) used ≡ false
    known user used c =
        let old = uses-forget names es user used c in
        ap (λ (e : Entry). is_gone e.definition)
        (entry-forget_other names es used (λ member. old.0 (free_names user used member old.1)))
        ∙ sound.known user used old.1

    free : (name : ℕ) → read_only_in (forget_all names es) name ≡ true → Contains names name ⊎ (Contains names name → ⊥)
        → bound_in (forget_all names es) name ≡ false
    free name only (inl member) = ap is_binding (entry-forget names es name member)
    free name only (inr out) =
        ap (λ (e : Entry). is_binding e.definition) (entry-forget_other names es name out)
        ∙ sound.free name (sym (ap (λ (e : Entry). e.read_only) (entry-forget_other names es name out)) ∙ only)

pub sound_empty : AreSound []
sound_empty = record {
  kinds = λ name. tt;
  known = λ user used c. absurd (none_in_nil used c);
  free = λ name only. refl;
}
