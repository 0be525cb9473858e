-- Names that are given values.
use Rattle.std.proofs.Common.{◌≡◌, ◌≢◌, ℕ, suc, ◌<◌, Bool, false, not, List, [], ◌∷◌, length, map, filter, set, arith, refl, sym, ◌∙◌, ap, subst, inl, inr, ◌⊎◌}
use Rattle.std.specs.List.{Contains, AllPairs}
use Rattle.std.proofs.lemmas.Bool.{cases_Bool, both_ways, not_from_false}
use Rattle.std.proofs.lemmas.List.{length-set}
use Rattle.fx_base.specs.declared.keys.Name.{Name}
use Rattle.fx_base.specs.declared.values.Value.{Value}
use Rattle.fx_graph_model.specs.declared.entries.Entry.{Entry}
use Rattle.fx_graph_model.specs.declared.entries.Definition.TheVariants.{Base}
use Rattle.fx_graph_model.specs.Equality.{same_value}
use Rattle.fx_graph_model.specs.Uses.{entry_of, operands_in, uses, bound_in, unknown_in, Ranked}
use Rattle.fx_graph_model.specs.Eager.{value_of_definition, eager}
use Rattle.fx_graph_model.specs.Unread.{leads_to_any, after_marking}
use Rattle.fx_graph_model.specs.Users.{Row, Mirrors}
use Rattle.fx_graph_model.specs.Changes.{given, with_values, changed}
use Rattle.fx_graph_model.specs.Sound.{IsSettled}
use Rattle.fx_graph_model.proofs.Same.{Decides-value}
use Rattle.fx_graph_model.proofs.Members.{none_in_nil, contains_first, contains_later, contains_cases, contains_map, map_contains, contains_filter, cases_contains}
use Rattle.fx_graph_model.proofs.Walks.{any-member}
use Rattle.fx_graph_model.proofs.Values.{eager-unfold}
use Rattle.fx_graph_model.proofs.Ranks.{ranked_fewer, entry-set_same, entry-set_other, uses-set_cases}
use Rattle.fx_graph_model.proofs.Changed.{base_definition, no_operands, known_within, settled_changed}

-- the names of pairs
abbrev pub targets : List (Name × Value) → List ℕ
targets pairs = map (λ (pair : Name × Value). pair.0.0) pairs

-- no two pairs have one name
abbrev pub Distinct : List (Name × Value) → Type 0
Distinct pairs = AllPairs (λ (one other : Name × Value). one.0 ≢ other.0) pairs

pub distinct_rest : (pair : Name × Value) (pairs : List (Name × Value)) → Distinct (pair ∷ pairs) → Distinct pairs
distinct_rest pair pairs distinct i j d less h = distinct (suc i) (suc j) d (omega arith) (omega arith)

pub distinct_first : (pair : Name × Value) (pairs : List (Name × Value)) → Distinct (pair ∷ pairs)
    → Contains (targets pairs) pair.0.0 → ⊥
distinct_first pair pairs distinct c =
    let found = map_contains (λ (p : Name × Value). p.0.0) pairs pair.0.0 c in
    let place = found.1 in
    let make : ℕ → Name = λ n. record { 0 = n } in
    distinct 0 (suc place.0) found.0 (omega arith) (omega (arith, place.1))
    (sym (ap (λ (p : Name × Value). p.0) place.2 ∙ ap make found.2))

pub length-given : (sets : Bool) (pairs : List (Name × Value)) (es : List Entry) → length (with_values sets pairs es) ≡ length es
length-given sets [] es = refl
length-given sets (pair ∷ pairs) es =
    length-given sets pairs (set es pair.0.0 (given sets pair.1 (entry_of es pair.0.0)))
    ∙ length-set es pair.0.0 (given sets pair.1 (entry_of es pair.0.0))

pub entry-given_other : (sets : Bool) (pairs : List (Name × Value)) (es : List Entry) (name : ℕ) → (Contains (targets pairs) name → ⊥)
    → entry_of (with_values sets pairs es) name ≡ entry_of es name
entry-given_other sets [] es name out = refl
entry-given_other sets (pair ∷ pairs) es name out =
    entry-given_other sets pairs (set es pair.0.0 (given sets pair.1 (entry_of es pair.0.0))) name
    (λ c. out (contains_later pair.0.0 (targets pairs) name c))
    ∙ entry-set_other es pair.0.0 name (given sets pair.1 (entry_of es pair.0.0))
    (λ (e : name ≡ pair.0.0). out (subst (Contains (targets (pair ∷ pairs))) (sym e) (contains_first pair.0.0 (targets pairs))))

pub entry-given : (sets : Bool) (pairs : List (Name × Value)) (es : List Entry) → Distinct pairs
    → ((p : Name × Value) → Contains pairs p → p.0.0 < length es)
    → (pair : Name × Value) → Contains pairs pair
    → entry_of (with_values sets pairs es) pair.0.0 ≡ given sets pair.1 (entry_of es pair.0.0)
entry-given sets [] es distinct within pair c = absurd (none_in_nil pair c)
entry-given sets (first ∷ pairs) es distinct within pair c =
    elim (contains_cases first pairs pair c) [
      | inl here ↦
          let P : Name × Value → Type 0 = λ p. entry_of (with_values sets (first ∷ pairs) es) p.0.0 ≡ given sets p.1 (entry_of es p.0.0) in
          subst P here
          (entry-given_other sets pairs (set es first.0.0 (given sets first.1 (entry_of es first.0.0))) first.0.0
          (distinct_first first pairs distinct)
          ∙ entry-set_same es first.0.0 (given sets first.1 (entry_of es first.0.0)) (within first (contains_first first pairs)))
      | inr later ↦
          let after : List Entry = set es first.0.0 (given sets first.1 (entry_of es first.0.0)) in
          let long : length after ≡ length es = length-set es first.0.0 (given sets first.1 (entry_of es first.0.0)) in
          let differs : pair.0.0 ≡ first.0.0 → ⊥ =
          λ e. distinct_first first pairs distinct
          (subst (Contains (targets pairs)) e (contains_map (λ (p : Name × Value). p.0.0) pairs pair later)) in
          entry-given sets pairs after (distinct_rest first pairs distinct)
          (λ p d. let was : p.0.0 < length es = within p (contains_later first pairs p d) in omega arith) pair later
          ∙ ap (given sets pair.1) (entry-set_other es first.0.0 pair.0.0 (given sets first.1 (entry_of es first.0.0)) differs)
    ]

-- a name with a value has no operands
pub uses-given : (sets : Bool) (pairs : List (Name × Value)) (es : List Entry) (user used : ℕ)
    → Contains (uses (with_values sets pairs es) user) used → Contains (uses es user) used
uses-given sets [] es user used c = c
uses-given sets (pair ∷ pairs) es user used c =
    old (uses-set_cases es pair.0.0 (given sets pair.1 (entry_of es pair.0.0)) user used
    (uses-given sets pairs (set es pair.0.0 (given sets pair.1 (entry_of es pair.0.0))) user used c))
  where
    old : ((user ≡ pair.0.0) × Contains [] used) ⊎ ((user ≡ pair.0.0 → ⊥) × Contains (uses es user) used) → Contains (uses es user) used
    old (inl new) = absurd (none_in_nil used new.1)
    old (inr kept) = kept.1

-- and where it wasn't bound, nothing is used less
pub uses-given_kept : (sets : Bool) (pairs : List (Name × Value)) (es : List Entry)
    → ((p : Name × Value) → Contains pairs p → bound_in es p.0.0 ≡ false)
    → (user used : ℕ) → Contains (uses es user) used → Contains (uses (with_values sets pairs es) user) used
uses-given_kept sets pairs es free user used c =
    elim (cases_contains (targets pairs) user) [
      | inl member ↦
          let found = map_contains (λ (p : Name × Value). p.0.0) pairs user member in
          let P : ℕ → Type 0 = λ n. Contains (uses es n) used in
          let Q : List ℕ → Type 0 = λ xs. Contains xs used in
          absurd (none_in_nil used
          (subst Q (no_operands (entry_of es found.0.0.0).definition (free found.0 found.1)) (subst P (sym found.2) c)))
      | inr out ↦
          let Q : List ℕ → Type 0 = λ xs. Contains xs used in
          subst Q (sym (ap (λ (e : Entry). operands_in e.definition) (entry-given_other sets pairs es user out))) c
    ]

pub ranked_given : (sets : Bool) (pairs : List (Name × Value)) (es : List Entry) (rank : ℕ → ℕ) → Ranked es rank
    → Ranked (with_values sets pairs es) rank
ranked_given sets pairs es rank ranked =
    ranked_fewer es (with_values sets pairs es) rank ranked (length-given sets pairs es) (uses-given sets pairs es)

pub mirrors_given : (sets : Bool) (pairs : List (Name × Value)) (es : List Entry) (users : List Row) → Mirrors es users
    → ((p : Name × Value) → Contains pairs p → bound_in es p.0.0 ≡ false)
    → Mirrors (with_values sets pairs es) users
mirrors_given sets pairs es users m free = record {
  rows = m.rows ∙ sym (length-given sets pairs es);
  listed = λ user name c. m.listed user name (uses-given sets pairs es user name c);
  using = λ user name c. uses-given_kept sets pairs es free user name (m.using user name c);
}

-- a name that isn't among the changed ones had this value
pub unchanged_value : (pairs : List (Name × Value)) (es : List Entry) (pair : Name × Value) → Contains pairs pair
    → (Contains (changed pairs es) pair.0.0 → ⊥) → eager es pair.0.0 ≡ pair.1
unchanged_value pairs es pair c out =
    elim (cases_Bool (same_value (eager es pair.0.0) pair.1)) [
      | inl same ↦ (Decides-value (eager es pair.0.0) pair.1).0 same
      | inr other ↦
          absurd (out (contains_map (λ (p : Name × Value). p.0.0)
          (filter (λ (p : Name × Value). not (same_value (eager es p.0.0) p.1)) pairs) pair
          (contains_filter (λ (p : Name × Value). not (same_value (eager es p.0.0) p.1)) pairs pair c (not_from_false _ other))))
    ]

-- after the mark from the changed names all is kept as it is to be
pub settled_given : (sets : Bool) (pairs : List (Name × Value)) (es : List Entry) (rank : ℕ → ℕ) → Ranked es rank
    → Distinct pairs
    → ((p : Name × Value) → Contains pairs p → (unknown_in es p.0.0 ≡ false) × (bound_in es p.0.0 ≡ false))
    → (flags : List Bool) (cache : List Value) → IsSettled es flags cache
    → IsSettled (with_values sets pairs es) (after_marking (with_values sets pairs es) (changed pairs es) flags) cache
settled_given sets pairs es rank ranked distinct plain flags cache s =
    settled_changed es (with_values sets pairs es) rank (ranked_given sets pairs es rank ranked) (changed pairs es) flags cache s
    (length-given sets pairs es) same
    (λ user name c on. inl (s.closed user name (uses-given sets pairs es user name c) on))
  where
    same : (name : ℕ) → leads_to_any (with_values sets pairs es) (changed pairs es) name ≡ false
        → (entry_of (with_values sets pairs es) name).definition ≡ (entry_of es name).definition
    same name off =
        elim (cases_contains (targets pairs) name) [
          | inl member ↦
              let found = map_contains (λ (p : Name × Value). p.0.0) pairs name member in
              let ok = plain found.0 found.1 in
              let base = base_definition (entry_of es found.0.0.0).definition ok.1 ok.0 in
              let out : Contains (changed pairs es) found.0.0.0 → ⊥ =
              λ c. both_ways _ off (any-member (with_values sets pairs es) (changed pairs es) name (subst (Contains (changed pairs es)) found.2 c)) in
              let was : base.0 ≡ found.0.1 =
              sym (eager-unfold es rank ranked found.0.0.0 ∙ ap (value_of_definition (eager es)) base.1)
              ∙ unchanged_value pairs es found.0 found.1 out in
              let P : ℕ → Type 0 = λ n. (entry_of (with_values sets pairs es) n).definition ≡ (entry_of es n).definition in
              subst P found.2
              (ap (λ (e : Entry). e.definition)
              (entry-given sets pairs es distinct (λ p c. known_within es p.0.0 (plain p c).0) found.0 found.1)
              ∙ ap Base (sym was) ∙ sym base.1)
          | inr out ↦ ap (λ (e : Entry). e.definition) (entry-given_other sets pairs es name out)
        ]

abbrev differs : List Entry → Name × Value → Bool
differs es p = not (same_value (eager es p.0.0) p.1)
