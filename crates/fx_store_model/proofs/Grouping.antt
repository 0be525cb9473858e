-- Names that a test picks are given one value, by pairs of a name and this value.
use Rattle.std.proofs.Common.{◌≡◌, ◌≢◌, ℕ, ◌<◌, Bool, true, false, cond, not, ◌==◌, List, [], ◌∷◌, length, map, filter, get_or, set, arith, refl, sym, ◌∙◌, ap, subst, inl, inr, ◌⊎◌}
use Rattle.std.specs.List.{AllPairs, Contains, range_with_len}
use Rattle.std.proofs.lemmas.Bool.{cases_Bool, cases_lt, both_ways, eqb-true, eqb-false, not_from_false, not-true}
use Rattle.std.proofs.lemmas.List.{get_or_past, get_or-map, length-map, length-set}
use Rattle.std.proofs.lemmas.List.FromFn.{fill_by_all, get_or-map-range_with_len, length-map-range_with_len}
use Rattle.fx_base.specs.declared.keys.Name.{Name}
use Rattle.fx_base.specs.declared.values.Value.{Value}
use Rattle.fx_graph_model.specs.declared.entries.Entry.{Entry}
use Rattle.fx_graph_model.specs.Changes.{given, with_values, changed}
use Rattle.fx_graph_model.specs.Eager.{eager}
use Rattle.fx_graph_model.specs.Equality.{same_value}
use Rattle.fx_base.specs.Names.{numbers}
use Rattle.fx_graph_model.specs.Uses.{nothing, entry_of}
use Rattle.fx_graph_model.proofs.Given.{targets, Distinct, length-given, entry-given, entry-given_other}
use Rattle.fx_graph_model.proofs.Members.{none_in_nil, in_range, contains_map, map_contains, contains_filter, filter_contains}
use Rattle.fx_graph_model.proofs.Ranks.{entry-set_same, entry-set_other}
use Rattle.fx_store_model.specs.Making.{with_group}

-- what stands at a name afterwards
abbrev pub grouped : (ℕ → Bool) → Value → List Entry → ℕ → Entry
grouped test value es name = cond (test name) (given true value (entry_of es name)) (entry_of es name)

pub length-group : (test : ℕ → Bool) (value : Value) (es : List Entry) → length (with_group test value es) ≡ length es
length-group test value es = length-map-range_with_len (grouped test value es) 0 (length es)

entry-group : (test : ℕ → Bool) (value : Value) (es : List Entry) (name : ℕ) → name < length es
    → entry_of (with_group test value es) name ≡ grouped test value es name
entry-group test value es name within =
    get_or-map-range_with_len (grouped test value es) 0 (length es) name name nothing within (omega arith)

pub entry-group_in : (test : ℕ → Bool) (value : Value) (es : List Entry) (name : ℕ) → name < length es → test name ≡ true
    → entry_of (with_group test value es) name ≡ given true value (entry_of es name)
entry-group_in test value es name within passes =
    entry-group test value es name within
    ∙ ap (λ (b : Bool). cond b (given true value (entry_of es name)) (entry_of es name)) passes

pub entry-group_out : (test : ℕ → Bool) (value : Value) (es : List Entry) (name : ℕ) → test name ≡ false
    → entry_of (with_group test value es) name ≡ entry_of es name
entry-group_out test value es name fails =
    elim (cases_lt name (length es)) [
      | inl within ↦
          entry-group test value es name within
          ∙ ap (λ (b : Bool). cond b (given true value (entry_of es name)) (entry_of es name)) fails
      | inr past ↦
          let long : length (with_group test value es) ≡ length es = length-group test value es in
          get_or_past (with_group test value es) name nothing (omega arith) ∙ sym (get_or_past es name nothing past)
    ]

-- the entries that are so by name
group_by : (test : ℕ → Bool) (value : Value) (es now : List Entry) → length now ≡ length es
    → ((name : ℕ) → name < length es → test name ≡ true → entry_of now name ≡ given true value (entry_of es name))
    → ((name : ℕ) → name < length es → test name ≡ false → entry_of now name ≡ entry_of es name)
    → now ≡ with_group test value es
group_by test value es now long picked others =
    fill_by_all (grouped test value es) now (length es) nothing long (λ name h. each name h (cases_Bool (test name)))
  where
    each : (name : ℕ) → name < length es → (test name ≡ true) ⊎ (test name ≡ false) → entry_of now name ≡ grouped test value es name
    each name h (inl passes) =
        picked name h passes ∙ sym (ap (λ (b : Bool). cond b (given true value (entry_of es name)) (entry_of es name)) passes)
    each name h (inr fails) =
        others name h fails ∙ sym (ap (λ (b : Bool). cond b (given true value (entry_of es name)) (entry_of es name)) fails)

-- one name
pub set_group : (es : List Entry) (name : ℕ) (value : Value) → name < length es
    → set es name (given true value (entry_of es name)) ≡ with_group (λ (other : ℕ). other == name) value es
set_group es name value within =
    group_by (λ (other : ℕ). other == name) value es after (length-set es name (given true value (entry_of es name)))
    (λ other h passes. here other (eqb-true other name passes))
    (λ other h fails. entry-set_other es name other (given true value (entry_of es name)) (eqb-false other name fails))
  where
    after : List Entry
    after = set es name (given true value (entry_of es name))

    here : (other : ℕ) → other ≡ name → entry_of after other ≡ given true value (entry_of es other)
    here other e =
        let P : ℕ → Type 0 = λ n. entry_of after n ≡ given true value (entry_of es n) in
        subst P (sym e) (entry-set_same es name (given true value (entry_of es name)) within)

-- the pairs give this value to just the names that pass the test
pub record IsGroup (pairs : List (Name × Value)) (test : ℕ → Bool) (value : Value) (es : List Entry) : Type 0 where
  pub distinct : Distinct pairs
  pub one_value : (p : Name × Value) → Contains pairs p → p.1 ≡ value
  pub passes : (name : ℕ) → Contains (targets pairs) name → test name ≡ true
  pub named : (name : ℕ) → test name ≡ true → Contains (targets pairs) name
  pub within : (name : ℕ) → test name ≡ true → name < length es

pub given_group : (pairs : List (Name × Value)) (test : ℕ → Bool) (value : Value) (es : List Entry) → IsGroup pairs test value es
    → with_values true pairs es ≡ with_group test value es
given_group pairs test value es g =
    group_by test value es (with_values true pairs es) (length-given true pairs es) picked
    (λ name h fails. entry-given_other true pairs es name (λ c. both_ways _ fails (g.passes name c)))
  where
    inside : (p : Name × Value) → Contains pairs p → p.0.0 < length es
    inside p c = g.within p.0.0 (g.passes p.0.0 (contains_map (λ (q : Name × Value). q.0.0) pairs p c))

    picked : (name : ℕ) → name < length es → test name ≡ true
        → entry_of (with_values true pairs es) name ≡ given true value (entry_of es name)
    picked name h passes =
        let found = map_contains (λ (q : Name × Value). q.0.0) pairs name (g.named name passes) in
        let P : ℕ → Type 0 = λ n. entry_of (with_values true pairs es) n ≡ given true value (entry_of es n) in
        subst P found.2
        (entry-given true pairs es g.distinct inside found.0 found.1
        ∙ ap (λ (v : Value). given true v (entry_of es found.0.0.0)) (g.one_value found.0 found.1))

-- so do these names, each with the value
pub paired_group : (names : List Name) (test : ℕ → Bool) (value : Value) (es : List Entry)
    → AllPairs (λ (one other : Name). one.0 ≢ other.0) names
    → ((name : ℕ) → Contains (numbers names) name → test name ≡ true)
    → ((name : ℕ) → test name ≡ true → Contains (numbers names) name)
    → ((name : ℕ) → test name ≡ true → name < length es)
    → IsGroup (map (λ (name : Name). (name, value)) names) test value es
paired_group names test value es distinct passes named within = record {
  distinct = distinct_pairs;
  one_value = λ p c. one_value p (map_contains pair names p c);
  passes = λ name c. passes name (subst (λ (xs : List ℕ). Contains xs name) (same_names names) c);
  named = λ name e. subst (λ (xs : List ℕ). Contains xs name) (sym (same_names names)) (named name e);
  within = within;
}
  where
    pair : Name → Name × Value
    pair name = (name, value)

    same_names : (some : List Name) → targets (map pair some) ≡ numbers some
    same_names [] = refl
    same_names (name ∷ some) = ap (λ (xs : List ℕ). name.0 ∷ xs) (same_names some)

    one_value : (p : Name × Value) → (name : Name) × Contains names name × (pair name ≡ p) → p.1 ≡ value
    one_value p found = sym (ap (λ (q : Name × Value). q.1) found.2)

    distinct_pairs : Distinct (map pair names)
    distinct_pairs i j d less h =
        let long : length (map pair names) ≡ length names = length-map names pair in
        let one : get_or (map pair names) i d ≡ pair (get_or names i d.0) = get_or-map pair names i d.0 d (omega arith) in
        let other : get_or (map pair names) j d ≡ pair (get_or names j d.0) = get_or-map pair names j d.0 d (omega arith) in
        λ e.
        distinct i j d.0 less (omega arith)
        (ap (λ (name : Name). name.0)
        (sym (ap (λ (q : Name × Value). q.0) one) ∙ (e ∙ ap (λ (q : Name × Value). q.0) other)))

-- where all of them had one value: they change all or not at all
abbrev pub group_changed : (ℕ → Bool) → Value → Value → List Entry → List ℕ
group_changed test was value es = cond (same_value was value) [] (filter test (range_with_len 0 (length es)))

differs : List Entry → Name × Value → Bool
differs es p = not (same_value (eager es p.0.0) p.1)

-- a pair of such names
pair_differs : (pairs : List (Name × Value)) (test : ℕ → Bool) (value was : Value) (es : List Entry) → IsGroup pairs test value es
    → ((name : ℕ) → test name ≡ true → eager es name ≡ was) → (p : Name × Value) → Contains pairs p
    → same_value (eager es p.0.0) p.1 ≡ same_value was value
pair_differs pairs test value was es g same p c =
    ap (λ (v : Value). same_value v p.1)
    (same p.0.0 (g.passes p.0.0 (contains_map (λ (q : Name × Value). q.0.0) pairs p c)))
    ∙ ap (same_value was) (g.one_value p c)

pub changed_group : (pairs : List (Name × Value)) (test : ℕ → Bool) (value was : Value) (es : List Entry) → IsGroup pairs test value es
    → ((name : ℕ) → test name ≡ true → eager es name ≡ was) → (name : ℕ) → Contains (changed pairs es) name
    → Contains (group_changed test was value es) name
unfolding differs
changed_group pairs test value was es g same name c =
    let found = map_contains (λ (q : Name × Value). q.0.0) (filter (differs es) pairs) name c in
    let kept = filter_contains (differs es) pairs found.0 found.1 in
    let passes : test found.0.0.0 ≡ true = g.passes found.0.0.0 (contains_map (λ (q : Name × Value). q.0.0) pairs found.0 kept.0) in
    let other : same_value was value ≡ false =
    sym (pair_differs pairs test value was es g same found.0 kept.0) ∙ not-true _ kept.1 in
    let all : List ℕ = filter test (range_with_len 0 (length es)) in
    let P : Bool → Type 0 = λ b. Contains (cond b [] all) name in
    subst P (sym other)
    (subst (Contains all) found.2
    (contains_filter test (range_with_len 0 (length es)) found.0.0.0
    (in_range (length es) found.0.0.0 (g.within found.0.0.0 passes)) passes))

pub changed_group_all : (pairs : List (Name × Value)) (test : ℕ → Bool) (value was : Value) (es : List Entry) → IsGroup pairs test value es
    → ((name : ℕ) → test name ≡ true → eager es name ≡ was) → (name : ℕ) → Contains (group_changed test was value es) name
    → Contains (changed pairs es) name
unfolding differs
changed_group_all pairs test value was es g same name c =
    let all : List ℕ = filter test (range_with_len 0 (length es)) in
    let P : Bool → Type 0 = λ b. Contains (cond b [] all) name in
    elim (cases_Bool (same_value was value)) [
      | inl still ↦ absurd (none_in_nil name (subst P still c))
      | inr other ↦
          let member = filter_contains test (range_with_len 0 (length es)) name (subst P other c) in
          let found = map_contains (λ (q : Name × Value). q.0.0) pairs name (g.named name member.1) in
          let changes : differs es found.0 ≡ true =
          not_from_false _ (pair_differs pairs test value was es g same found.0 found.1 ∙ other) in
          subst (Contains (changed pairs es)) found.2
          (contains_map (λ (q : Name × Value). q.0.0) (filter (differs es) pairs) found.0
          (contains_filter (differs es) pairs found.0 found.1 changes))
    ]
