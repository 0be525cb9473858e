-- The names of a group, each with the value that it is given.
use Rattle.std.proofs.Common.{◌≡◌, ◌≢◌, ◌↔◌, ℕ, ◌==◌, Bool, true, not, List, map, filter, Contains, None, sym, subst, ap, ◌∙◌}
use Rattle.std.specs.List.{AllPairs}
use Rattle.std.proofs.lemmas.Bool.{and_from, and_parts}
use Rattle.std.proofs.lemmas.List.Kept.{AllPairs-filter}
use Rattle.fx_base.specs.Printing.{kind_of}
use Rattle.fx_base.specs.declared.keys.Name.{Name}
use Rattle.fx_base.specs.declared.values.Value.{Value}
use Rattle.fx_store_model.proofs.Grouping.{IsGroup, paired_group}
use Rattle.fx_store_pairs.specs.Pairs.{joined}
use Rattle.fx_graph_model.specs.declared.entries.Entry.{Entry}
use Rattle.fx_graph_model.specs.declared.entries.Definition.{Definition}
use Rattle.fx_graph_model.specs.Eager.{eager}
use Rattle.fx_base.specs.Names.{numbers}
use Rattle.fx_graph_model.specs.Refusals.{kind_at, set_refusal}
use Rattle.fx_graph_model.specs.Sound.{AreSound, HasKind}
use Rattle.fx_graph_model.specs.Uses.{entry_of}
use Rattle.fx_graph_model.proofs.Members.{contains_filter, contains_map, filter_contains, map_contains}
use Rattle.fx_store.specs.Kept.{ArePaired}
use Rattle.fx_store.proofs.Pairing.{pair_test}
use Rattle.fx_store.proofs.Twins.{IsOwn, group_settable, joined_within, own_eager, own_settable}

abbrev pub AreMembers : List Name → (ℕ → Bool) → Type 0
AreMembers names test = (other : ℕ) → Contains (numbers names) other ↔ test other ≡ true

abbrev pub AreDistinct : List Name → Type 0
AreDistinct names = AllPairs (λ (one other : Name). one.0 ≢ other.0) names

abbrev pub with_value_of : Value → List Name → List (Name × Value)
with_value_of value names = map (λ (name : Name). (name, value)) names

abbrev pub all_but : ℕ → List Name → List Name
all_but other names = filter (λ (name : Name). not (name.0 == other)) names

pub joined_group : (es : List Entry) (pairs : List (ℕ × ℕ)) → ArePaired es pairs → (name : ℕ) (value : Value) → IsOwn es name
    → (names : List Name) → AreMembers names (joined pairs name) → AreDistinct names
    → IsGroup (with_value_of value names) (joined pairs name) value es
joined_group es pairs paired name value own names members distinct =
    paired_group names (joined pairs name) value es distinct (λ n c. (members n).0 c) (λ n e. (members n).1 e)
    (λ n e. joined_within es pairs paired name n e own)

-- but the other
members_but : (pairs : List (ℕ × ℕ)) (one other : ℕ) (names : List Name) → AreMembers names (joined pairs one) → (name : ℕ)
    → Contains (numbers (all_but other names)) name → pair_test pairs one other name ≡ true
members_but pairs one other names members name c =
    let found = map_contains (λ (n : Name). n.0) (all_but other names) name c in
    let kept = filter_contains (λ (n : Name). not (n.0 == other)) names found.0 found.1 in
    subst (λ n. pair_test pairs one other n ≡ true) found.2
    (and_from _ _ ((members found.0.0).0 (contains_map (λ (n : Name). n.0) names found.0 kept.0)) kept.1)

but_members : (pairs : List (ℕ × ℕ)) (one other : ℕ) (names : List Name) → AreMembers names (joined pairs one) → (name : ℕ)
    → pair_test pairs one other name ≡ true → Contains (numbers (all_but other names)) name
but_members pairs one other names members name e =
    let parts = and_parts (joined pairs one name) (not (name == other)) e in
    let found = map_contains (λ (n : Name). n.0) names name ((members name).1 parts.0) in
    subst (Contains (numbers (all_but other names))) found.2
    (contains_map (λ (n : Name). n.0) (all_but other names) found.0
    (contains_filter (λ (n : Name). not (n.0 == other)) names found.0 found.1
    (subst (λ n. not (n == other) ≡ true) (sym found.2) parts.1)))

pub pair_group : (es : List Entry) (pairs : List (ℕ × ℕ)) → ArePaired es pairs → (one other : ℕ) (value : Value) → IsOwn es one
    → (names : List Name) → AreMembers names (joined pairs one) → AreDistinct names
    → IsGroup (with_value_of value (all_but other names)) (pair_test pairs one other) value es
pair_group es pairs paired one other value own names members distinct =
    paired_group (all_but other names) (pair_test pairs one other) value es
    (AllPairs-filter (λ (n m : Name). n.0 ≢ m.0) (λ (n : Name). not (n.0 == other)) names distinct)
    (members_but pairs one other names members) (but_members pairs one other names members)
    (λ n e. joined_within es pairs paired one n (and_parts (joined pairs one n) (not (n == other)) e).0 own)

-- a value of its own has the name's kind
pub own_kind : (es : List Entry) → AreSound es → (name : ℕ) → IsOwn es name → kind_of (eager es name) ≡ kind_at es name
own_kind es sound name own =
    let P : Definition → Type 0 = λ d. HasKind es (entry_of es name) d in
    ap kind_of (own_eager es name own) ∙ subst P own.has (sound.kinds name)

-- nothing refuses the group of a further pair the value of the other
pub pair_unrefused : (es : List Entry) (pairs : List (ℕ × ℕ)) → ArePaired es pairs → AreSound es → (one other : ℕ) → IsOwn es one
    → IsOwn es other → kind_at es one ≡ kind_at es other → (group : List (Name × Value))
    → IsGroup group (pair_test pairs one other) (eager es other) es → set_refusal group es ≡ None
pair_unrefused es pairs paired sound one other own_one own_other kind group g =
    group_settable es pairs paired (pair_test pairs one other) one (eager es other)
    (own_settable es one (eager es other) own_one (own_kind es sound other own_other ∙ sym kind))
    (λ n e. (and_parts (joined pairs one n) (not (n == other)) e).0) group g
