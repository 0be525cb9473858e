-- What each change leaves of known names, and so of pairs and of listeners: pairs stay twins, and listeners stay on known
-- properties.
use Rattle.std.proofs.Common.{◌≡◌, ℕ, ◌==◌, ◌<◌, ◌⊎◌, Bool, true, false, not, ◌||◌, List, [], ◌∷◌, ◌++◌, length, filter, set, Contains, refl, sym, subst, ap, inl, inr, ◌∙◌}
use Rattle.std.proofs.lemmas.Bool.{both_ways, cases_Bool, cases_eq, eq-eqb, eqb-true, false_from_ne_true, ne_eqb, not-true, or_cases, or_left, or_parts, or_right}
use Rattle.std.proofs.lemmas.List.Elements.{All-contains, All-filter}
use Rattle.fx_base.specs.declared.keys.Name.{Name}
use Rattle.fx_base.specs.declared.values.Value.{Value}
use Rattle.fx_store_model.specs.Making.{with_group}
use Rattle.fx_store_model.proofs.Grouping.{entry-group_in, entry-group_out}
use Rattle.fx_expr.specs.Tree.{Tree}
use Rattle.fx_handles.specs.declared.Owner.{Owner}
use Rattle.fx_listen.specs.declared.entries.Listener.{Listener}
use Rattle.fx_listen.specs.Listening.{is_live, living_in}
use Rattle.fx_store_pairs.specs.Pairs.{is_among, is_end, is_paired, joined}
use Rattle.fx_store_pairs.proofs.Joining.{joined-pair, joined-sym, joined-trans}
use Rattle.fx_graph_model.specs.declared.entries.Entry.{Entry}
use Rattle.fx_graph_model.specs.declared.entries.Definition.TheVariants.{Base}
use Rattle.fx_graph_model.specs.Changes.{bound_to, forget_all, given, with_binding, with_values}
use Rattle.fx_graph_model.specs.Refusals.{kind_at, read_only_in}
use Rattle.fx_graph_model.specs.Uses.{bound_in, entry_of, is_gone, unknown_in}
use Rattle.fx_graph_model.proofs.Changed.{entry-declared, known_within}
use Rattle.fx_graph_model.proofs.Forgetting.{entry-forget_other}
use Rattle.fx_graph_model.proofs.Given.{entry-given_other, targets}
use Rattle.fx_graph_model.proofs.Members.{any_at, any_from, filter_contains, map_contains}
use Rattle.fx_graph_model.proofs.Ranks.{entry-set_other, entry-set_same}
use Rattle.fx_store.specs.Kept.{AreOnKnown, ArePaired, AreTwins}
use Rattle.fx_store.proofs.Twins.{IsOwn, all_from, own_known, own_unbound, own_within, paired_own, paired_twins, twins_one, twins_other}

-- a known name keeps its kind and its rights, and stays known
pub record StaysAt (before now : List Entry) (name : ℕ) : Type 0 where
  pub read_only : read_only_in now name ≡ read_only_in before name
  pub kind : kind_at now name ≡ kind_at before name
  pub known : unknown_in now name ≡ false

abbrev pub Stays : List Entry → List Entry → Type 0
Stays before now = (name : ℕ) → unknown_in before name ≡ false → StaysAt before now name

stays_entry : (es fs : List Entry) (name : ℕ) (entry : Entry) → entry_of fs name ≡ entry → entry.read_only ≡ read_only_in es name
    → entry.kind ≡ kind_at es name → is_gone entry.definition ≡ false → StaysAt es fs name
stays_entry es fs name entry same rights kind known = record {
  read_only = ap (λ (e : Entry). e.read_only) same ∙ rights;
  kind = ap (λ (e : Entry). e.kind) same ∙ kind;
  known = ap (λ (e : Entry). is_gone e.definition) same ∙ known;
}

stays_same : (es fs : List Entry) (name : ℕ) → entry_of fs name ≡ entry_of es name → unknown_in es name ≡ false → StaysAt es fs name
stays_same es fs name same known = stays_entry es fs name (entry_of es name) same refl refl known

pub stays_itself : (es : List Entry) → Stays es es
stays_itself es name known = stays_same es es name refl known

pub stays_onwards : (es fs gs : List Entry) → Stays es fs → Stays fs gs → Stays es gs
stays_onwards es fs gs first second name known =
    let one : StaysAt es fs name = first name known in
    let other : StaysAt fs gs name = second name one.known in
    record { read_only = other.read_only ∙ one.read_only; kind = other.kind ∙ one.kind; known = other.known }

stays_set : (es : List Entry) (name : ℕ) (entry : Entry) → entry.read_only ≡ read_only_in es name → entry.kind ≡ kind_at es name
    → is_gone entry.definition ≡ false → Stays es (set es name entry)
stays_set es name entry rights kind there other known =
    elim (cases_eq other name) [
      | inl here ↦
          subst (StaysAt es (set es name entry)) (sym here)
          (stays_entry es (set es name entry) name entry
          (entry-set_same es name entry (subst (λ n. n < length es) here (known_within es other known))) rights kind there)
      | inr differs ↦ stays_same es (set es name entry) other (entry-set_other es name other entry differs) known
    ]

pub stays_group : (test : ℕ → Bool) (value : Value) (es : List Entry) → Stays es (with_group test value es)
stays_group test value es name known =
    elim (cases_Bool (test name)) [
      | inl passes ↦
          stays_entry es (with_group test value es) name (given true value (entry_of es name))
          (entry-group_in test value es name (known_within es name known) passes) refl refl refl
      | inr fails ↦ stays_same es (with_group test value es) name (entry-group_out test value es name fails) known
    ]

pub stays_values : (sets : Bool) (pairs : List (Name × Value)) (es : List Entry) → Stays es (with_values sets pairs es)
stays_values sets [] es = stays_itself es
stays_values sets (pair ∷ pairs) es =
    let after : List Entry = set es pair.0.0 (given sets pair.1 (entry_of es pair.0.0)) in
    stays_onwards es after (with_values sets pairs after)
    (stays_set es pair.0.0 (given sets pair.1 (entry_of es pair.0.0)) refl refl refl) (stays_values sets pairs after)

pub stays_bound : (name : ℕ) (expr : Tree) (operands : List ℕ) (es : List Entry) → Stays es (with_binding name expr operands es)
stays_bound name expr operands es = stays_set es name (bound_to expr operands (entry_of es name)) refl refl refl

pub stays_declared : (es : List Entry) (entry : Entry) → Stays es (es ++ entry ∷ [])
stays_declared es entry name known =
    stays_same es (es ++ entry ∷ []) name (entry-declared es entry name (known_within es name known)) known

pub stays_forgotten : (names : List ℕ) (es : List Entry) (name : ℕ) → (Contains names name → ⊥) → unknown_in es name ≡ false
    → StaysAt es (forget_all names es) name
stays_forgotten names es name out known = stays_same es (forget_all names es) name (entry-forget_other names es name out) known

-- listeners

pub known_stays : (es fs : List Entry) (listeners : List Listener) → Stays es fs → AreOnKnown es listeners → AreOnKnown fs listeners
known_stays es fs listeners stays known =
    all_from (λ (l : Listener). unknown_in fs l.name.0 ≡ false) listeners
    (λ l c. (stays l.name.0 (All-contains (λ (m : Listener). unknown_in es m.name.0 ≡ false) listeners l known c)).known)

pub not_among : (names : List ℕ) (name : ℕ) → is_among names name ≡ false → Contains names name → ⊥
not_among names name e c = both_ways _ e (any_at (λ (other : ℕ). other == name) names name c (eq-eqb name name refl))

pub known_forgotten : (names : List ℕ) (es : List Entry) (listeners : List Listener) → AreOnKnown es listeners
    → AreOnKnown (forget_all names es) (filter (λ (l : Listener). not (is_among names l.name.0)) listeners)
known_forgotten names es listeners known =
    let left : Listener → Bool = λ l. not (is_among names l.name.0) in
    all_from (λ (l : Listener). unknown_in (forget_all names es) l.name.0 ≡ false) (filter left listeners) each
  where
    each : (l : Listener) → Contains (filter (λ (m : Listener). not (is_among names m.name.0)) listeners) l
        → unknown_in (forget_all names es) l.name.0 ≡ false
    each l c =
        let member = filter_contains (λ (m : Listener). not (is_among names m.name.0)) listeners l c in
        (stays_forgotten names es l.name.0 (not_among names l.name.0 (not-true _ member.1))
        (All-contains (λ (m : Listener). unknown_in es m.name.0 ≡ false) listeners l known member.0)).known

pub known_living : (es : List Entry) (living : List Owner) (listeners : List Listener) → AreOnKnown es listeners
    → AreOnKnown es (living_in living listeners)
known_living es living listeners known =
    All-filter (is_live living) (λ (l : Listener). unknown_in es l.name.0 ≡ false) listeners known

-- pairs

-- both ends have this value of their own
abbrev pub AreBase : List Entry → ℕ × ℕ → Value → Type 0
AreBase entries pair value =
    ((entry_of entries pair.0).definition ≡ Base value) × ((entry_of entries pair.1).definition ≡ Base value)

pub twins_stay : (es fs : List Entry) (one other : ℕ) → AreTwins es one other → StaysAt es fs one → StaysAt es fs other
    → (value : Value) → AreBase fs (one, other) value → AreTwins fs one other
twins_stay es fs one other twins first second value base = record {
  one_free = first.read_only ∙ twins.one_free;
  other_free = second.read_only ∙ twins.other_free;
  kind = first.kind ∙ twins.kind ∙ sym second.kind;
  value = value;
  one_value = base.0;
  other_value = base.1;
}

pub paired_stays : (es fs : List Entry) (pairs : List (ℕ × ℕ)) → Stays es fs → ArePaired es pairs
    → ((pair : ℕ × ℕ) → Contains pairs pair → AreTwins es pair.0 pair.1 → (value : Value) × AreBase fs pair value)
    → ArePaired fs pairs
paired_stays es fs pairs stays paired each = all_from (λ (p : ℕ × ℕ). AreTwins fs p.0 p.1) pairs one
  where
    one : (pair : ℕ × ℕ) → Contains pairs pair → AreTwins fs pair.0 pair.1
    one pair c =
        let twins : AreTwins es pair.0 pair.1 = paired_twins es pairs paired pair c in
        let base = each pair c twins in
        twins_stay es fs pair.0 pair.1 twins
        (stays pair.0 (own_known es pair.0 (twins_one es pair.0 pair.1 twins)))
        (stays pair.1 (own_known es pair.1 (twins_other es pair.0 pair.1 twins))) base.0 base.1

pub first_paired : (pairs : List (ℕ × ℕ)) (pair : ℕ × ℕ) → Contains pairs pair → is_paired pairs pair.0 ≡ true
first_paired pairs pair c = any_at (is_end pair.0) pairs pair c (or_left _ _ (eq-eqb pair.0 pair.0 refl))

pub second_paired : (pairs : List (ℕ × ℕ)) (pair : ℕ × ℕ) → Contains pairs pair → is_paired pairs pair.1 ≡ true
second_paired pairs pair c = any_at (is_end pair.1) pairs pair c (or_right _ _ (eq-eqb pair.1 pair.1 refl))

-- where no name in a pair is touched
pub paired_same : (es fs : List Entry) (pairs : List (ℕ × ℕ)) → ArePaired es pairs
    → ((name : ℕ) → IsOwn es name → is_paired pairs name ≡ true → entry_of fs name ≡ entry_of es name) → ArePaired fs pairs
paired_same es fs pairs paired same = all_from (λ (p : ℕ × ℕ). AreTwins fs p.0 p.1) pairs one
  where
    at : (name : ℕ) → is_paired pairs name ≡ true → entry_of fs name ≡ entry_of es name
    at name e = same name (paired_own es pairs paired name e) e

    one : (pair : ℕ × ℕ) → Contains pairs pair → AreTwins fs pair.0 pair.1
    one pair c =
        let twins : AreTwins es pair.0 pair.1 = paired_twins es pairs paired pair c in
        let first : entry_of fs pair.0 ≡ entry_of es pair.0 = at pair.0 (first_paired pairs pair c) in
        let second : entry_of fs pair.1 ≡ entry_of es pair.1 = at pair.1 (second_paired pairs pair c) in
        twins_stay es fs pair.0 pair.1 twins
        (stays_same es fs pair.0 first (own_known es pair.0 (twins_one es pair.0 pair.1 twins)))
        (stays_same es fs pair.1 second (own_known es pair.1 (twins_other es pair.0 pair.1 twins))) twins.value
        (ap (λ (e : Entry). e.definition) first ∙ twins.one_value, ap (λ (e : Entry). e.definition) second ∙ twins.other_value)

pub base_in : (test : ℕ → Bool) (value : Value) (es : List Entry) (name : ℕ) → IsOwn es name → test name ≡ true
    → (entry_of (with_group test value es) name).definition ≡ Base value
base_in test value es name own passes =
    ap (λ (e : Entry). e.definition) (entry-group_in test value es name (own_within es name own) passes)

pub base_out : (test : ℕ → Bool) (value : Value) (es : List Entry) (name : ℕ) (own : Value) → (entry_of es name).definition ≡ Base own
    → test name ≡ false → (entry_of (with_group test value es) name).definition ≡ Base own
base_out test value es name own base fails = ap (λ (e : Entry). e.definition) (entry-group_out test value es name fails) ∙ base

-- all that are joined with a name are set together
pub paired_set : (es : List Entry) (pairs : List (ℕ × ℕ)) (name : ℕ) (value : Value) → ArePaired es pairs
    → ArePaired (with_group (joined pairs name) value es) pairs
paired_set es pairs name value paired =
    paired_stays es (with_group (joined pairs name) value es) pairs (stays_group (joined pairs name) value es) paired
    (λ pair c twins. by_case pair c twins (cases_Bool (joined pairs name pair.0)))
  where
    by_case : (pair : ℕ × ℕ) → Contains pairs pair → AreTwins es pair.0 pair.1
        → (joined pairs name pair.0 ≡ true) ⊎ (joined pairs name pair.0 ≡ false)
        → (v : Value) × AreBase (with_group (joined pairs name) value es) pair v
    by_case pair c twins (inl within) = (
      value,
      (
        base_in (joined pairs name) value es pair.0 (twins_one es pair.0 pair.1 twins) within,
        base_in (joined pairs name) value es pair.1 (twins_other es pair.0 pair.1 twins)
            (joined-trans pairs name pair.0 pair.1 within (joined-pair pairs pair c)),
      ),
    )
    by_case pair c twins (inr out) = (
      twins.value,
      (
        base_out (joined pairs name) value es pair.0 twins.value twins.one_value out,
        base_out (joined pairs name) value es pair.1 twins.value twins.other_value
            (false_from_ne_true (joined pairs name pair.1)
            (λ e. both_ways _ out (joined-trans pairs name pair.1 pair.0 e (joined-sym pairs pair.0 pair.1 (joined-pair pairs pair c))))),
      ),
    )

-- only read-only names are published
pub paired_published : (es : List Entry) (pairs : List (ℕ × ℕ)) (words : List (Name × Value)) → ArePaired es pairs
    → ((p : Name × Value) → Contains words p → read_only_in es p.0.0 ≡ true) → ArePaired (with_values false words es) pairs
paired_published es pairs words paired only =
    paired_same es (with_values false words es) pairs paired (λ name own _. entry-given_other false words es name (out name own))
  where
    out : (name : ℕ) → IsOwn es name → Contains (targets words) name → ⊥
    out name own c =
        let found = map_contains (λ (p : Name × Value). p.0.0) words name c in
        both_ways _ own.free (subst (λ n. read_only_in es n ≡ true) found.2 (only found.0 found.1))

-- no name in a pair is bound
pub paired_bound : (es : List Entry) (pairs : List (ℕ × ℕ)) (name : ℕ) (expr : Tree) (operands : List ℕ) → ArePaired es pairs
    → is_paired pairs name ≡ false → ArePaired (with_binding name expr operands es) pairs
paired_bound es pairs name expr operands paired free =
    paired_same es (with_binding name expr operands es) pairs paired
    (λ other own e. entry-set_other es name other (bound_to expr operands (entry_of es name))
    (λ same. both_ways _ free (subst (λ n. is_paired pairs n ≡ true) same e)))

pub paired_unbound_name : (es : List Entry) (pairs : List (ℕ × ℕ)) (name : ℕ) (value : Value) → ArePaired es pairs
    → bound_in es name ≡ true → ArePaired (with_group (λ (other : ℕ). other == name) value es) pairs
paired_unbound_name es pairs name value paired bound =
    paired_same es (with_group (λ (other : ℕ). other == name) value es) pairs paired
    (λ other own _. entry-group_out (λ (o : ℕ). o == name) value es other
    (ne_eqb other name (λ same. both_ways _ (own_unbound es other own) (subst (λ n. bound_in es n ≡ true) (sym same) bound))))

pub paired_declared : (es : List Entry) (pairs : List (ℕ × ℕ)) (entry : Entry) → ArePaired es pairs → ArePaired (es ++ entry ∷ []) pairs
paired_declared es pairs entry paired =
    paired_same es (es ++ entry ∷ []) pairs paired (λ name own _. entry-declared es entry name (own_within es name own))

pub paired_forgotten : (names : List ℕ) (es : List Entry) (pairs : List (ℕ × ℕ)) → ArePaired es pairs
    → ArePaired (forget_all names es) (filter (λ (pair : ℕ × ℕ). not (is_among names pair.0 || is_among names pair.1)) pairs)
paired_forgotten names es pairs paired =
    paired_same es (forget_all names es) (filter left pairs)
    (All-filter left (λ (p : ℕ × ℕ). AreTwins es p.0 p.1) pairs paired)
    (λ name own e. entry-forget_other names es name (out name e))
  where
    left : ℕ × ℕ → Bool
    left pair = not (is_among names pair.0 || is_among names pair.1)

    out : (name : ℕ) → is_paired (filter left pairs) name ≡ true → Contains names name → ⊥
    out name e among =
        let found = any_from (is_end name) (filter left pairs) e in
        let ends = or_parts _ _ (not-true _ (filter_contains left pairs found.0 found.1).1) in
        elim (or_cases (found.0.0 == name) (found.0.1 == name) found.2) [
          | inl first ↦ not_among names found.0.0 ends.0 (subst (Contains names) (sym (eqb-true found.0.0 name first)) among)
          | inr second ↦ not_among names found.0.1 ends.1 (subst (Contains names) (sym (eqb-true found.0.1 name second)) among)
        ]
