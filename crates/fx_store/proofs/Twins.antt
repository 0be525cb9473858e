-- Twins: names that pairs join are one name, or have one value, one kind and the same rights.
use Rattle.std.proofs.Common.{◌≡◌, ℕ, ◌==◌, ◌<◌, ◌⊎◌, Bool, true, false, not, List, [], ◌∷◌, length, None, All, Contains, refl, sym, subst, ap, inl, inr, ◌∙◌}
use Rattle.std.proofs.lemmas.Bool.{eqb-true, or_cases}
use Rattle.std.proofs.lemmas.List.Elements.{All-contains, Contains-get_or}
use Rattle.fx_base.specs.Printing.{kind_of}
use Rattle.fx_base.specs.declared.keys.Name.{Name}
use Rattle.fx_base.specs.declared.values.Value.{Value}
use Rattle.fx_store_model.proofs.Grouping.{IsGroup}
use Rattle.fx_store_pairs.specs.Laws.{IsEquivalence}
use Rattle.fx_store_pairs.specs.Pairs.{is_end, is_paired, joined}
use Rattle.fx_store_pairs.proofs.Joining.{joined-least}
use Rattle.fx_graph_model.specs.declared.entries.Entry.{Entry}
use Rattle.fx_graph_model.specs.declared.entries.Definition.TheVariants.{Base}
use Rattle.fx_graph_model.specs.Eager.{eager}
use Rattle.fx_graph_model.specs.Equality.{same_kind}
use Rattle.fx_base.specs.Names.{name_of}
use Rattle.fx_graph_model.specs.Refusals.{kind_at, pair_names, read_only_in, set_refusal}
use Rattle.fx_graph_model.specs.Uses.{bound_in, entry_of, is_binding, is_gone, unknown_in}
use Rattle.fx_graph_model.proofs.Changed.{base_definition, known_within}
use Rattle.fx_graph_model.proofs.Kept.{eager-own}
use Rattle.fx_graph_model.proofs.Members.{any_from, contains_first, contains_map, map_contains}
use Rattle.fx_graph_model.proofs.Refusing.{Settable, refused_none_from, settable}
use Rattle.fx_graph_model.proofs.Same.{Decides-kind}
use Rattle.fx_store.specs.Kept.{ArePaired, AreTwins}

pub all_from : {X : Type 0} (P : X → Type 0) (xs : List X) → ((x : X) → Contains xs x → P x) → All P xs
all_from P xs each = λ k d within. each _ (Contains-get_or xs k d within)

-- code may write the name, and it has a value of its own
pub record IsOwn (entries : List Entry) (name : ℕ) : Type 0 where
  pub free : read_only_in entries name ≡ false
  pub value : Value
  pub has : (entry_of entries name).definition ≡ Base value

pub own_known : (es : List Entry) (name : ℕ) → IsOwn es name → unknown_in es name ≡ false
own_known es name own = ap is_gone own.has

pub own_unbound : (es : List Entry) (name : ℕ) → IsOwn es name → bound_in es name ≡ false
own_unbound es name own = ap is_binding own.has

pub own_within : (es : List Entry) (name : ℕ) → IsOwn es name → name < length es
own_within es name own = known_within es name (own_known es name own)

pub own_eager : (es : List Entry) (name : ℕ) (own : IsOwn es name) → eager es name ≡ own.value
own_eager es name own = eager-own es name own.value (own_within es name own) own.has

pub own_from : (es : List Entry) (name : ℕ) → unknown_in es name ≡ false → read_only_in es name ≡ false → bound_in es name ≡ false
    → IsOwn es name
own_from es name known free unbound =
    let base = base_definition (entry_of es name).definition unbound known in
    record { free = free; value = base.0; has = base.1 }

pub twins_one : (es : List Entry) (one other : ℕ) → AreTwins es one other → IsOwn es one
twins_one es one other twins = record { free = twins.one_free; value = twins.value; has = twins.one_value }

pub twins_other : (es : List Entry) (one other : ℕ) → AreTwins es one other → IsOwn es other
twins_other es one other twins = record { free = twins.other_free; value = twins.value; has = twins.other_value }

pub twins_turned : (es : List Entry) (one other : ℕ) → AreTwins es one other → AreTwins es other one
twins_turned es one other twins = record {
  one_free = twins.other_free;
  other_free = twins.one_free;
  kind = sym twins.kind;
  value = twins.value;
  one_value = twins.other_value;
  other_value = twins.one_value;
}

pub twins_onwards : (es : List Entry) (one middle other : ℕ) → AreTwins es one middle → AreTwins es middle other → AreTwins es one other
twins_onwards es one middle other first second = record {
  one_free = first.one_free;
  other_free = second.other_free;
  kind = first.kind ∙ second.kind;
  value = first.value;
  one_value = first.one_value;
  other_value = second.other_value ∙ sym second.one_value ∙ first.other_value;
}

pub twins_eager : (es : List Entry) (one other : ℕ) → AreTwins es one other → eager es one ≡ eager es other
unfolding twins_one twins_other
twins_eager es one other twins =
    own_eager es one (twins_one es one other twins) ∙ sym (own_eager es other (twins_other es one other twins))

-- one name, or twins
abbrev pub AreAlike : List Entry → ℕ → ℕ → Type 0
AreAlike entries one other = (one ≡ other) ⊎ AreTwins entries one other

alike_turned : (es : List Entry) (one other : ℕ) → AreAlike es one other → AreAlike es other one
alike_turned es one other (inl same) = inl (sym same)
alike_turned es one other (inr twins) = inr (twins_turned es one other twins)

alike_onwards : (es : List Entry) (one middle other : ℕ) → AreAlike es one middle → AreAlike es middle other → AreAlike es one other
alike_onwards es one middle other (inl same) second = subst (λ n. AreAlike es n other) (sym same) second
alike_onwards es one middle other (inr twins) (inl same) = inr (subst (AreTwins es one) same twins)
alike_onwards es one middle other (inr first) (inr second) = inr (twins_onwards es one middle other first second)

alike_equivalence : (es : List Entry) → IsEquivalence (AreAlike es)
alike_equivalence es = record { itself = λ name. inl refl; turned = alike_turned es; onwards = alike_onwards es }

pub paired_twins : (es : List Entry) (pairs : List (ℕ × ℕ)) → ArePaired es pairs → (pair : ℕ × ℕ) → Contains pairs pair
    → AreTwins es pair.0 pair.1
paired_twins es pairs paired pair c = All-contains (λ (p : ℕ × ℕ). AreTwins es p.0 p.1) pairs pair paired c

pub joined_alike : (es : List Entry) (pairs : List (ℕ × ℕ)) → ArePaired es pairs → (one other : ℕ) → joined pairs one other ≡ true
    → AreAlike es one other
joined_alike es pairs paired =
    joined-least (AreAlike es) pairs (alike_equivalence es) (λ pair c. inr (paired_twins es pairs paired pair c))

pub joined_eager : (es : List Entry) (pairs : List (ℕ × ℕ)) → ArePaired es pairs → (one other : ℕ) → joined pairs one other ≡ true
    → eager es other ≡ eager es one
joined_eager es pairs paired one other e =
    elim (joined_alike es pairs paired one other e) [
      | inl same ↦ ap (eager es) (sym same)
      | inr twins ↦ sym (twins_eager es one other twins)
    ]

pub joined_kind : (es : List Entry) (pairs : List (ℕ × ℕ)) → ArePaired es pairs → (one other : ℕ) → joined pairs one other ≡ true
    → kind_at es other ≡ kind_at es one
joined_kind es pairs paired one other e =
    elim (joined_alike es pairs paired one other e) [
      | inl same ↦ ap (kind_at es) (sym same)
      | inr twins ↦ sym twins.kind
    ]

pub joined_own : (es : List Entry) (pairs : List (ℕ × ℕ)) → ArePaired es pairs → (one other : ℕ) → joined pairs one other ≡ true
    → IsOwn es one → IsOwn es other
joined_own es pairs paired one other e own =
    elim (joined_alike es pairs paired one other e) [
      | inl same ↦ subst (IsOwn es) same own
      | inr twins ↦ twins_other es one other twins
    ]

-- a name in a pair

pub end_paired : (es : List Entry) (pair : ℕ × ℕ) (name : ℕ) → AreTwins es pair.0 pair.1 → is_end name pair ≡ true → IsOwn es name
end_paired es pair name twins e =
    elim (or_cases (pair.0 == name) (pair.1 == name) e) [
      | inl first ↦ subst (IsOwn es) (eqb-true pair.0 name first) (twins_one es pair.0 pair.1 twins)
      | inr second ↦ subst (IsOwn es) (eqb-true pair.1 name second) (twins_other es pair.0 pair.1 twins)
    ]

pub paired_own : (es : List Entry) (pairs : List (ℕ × ℕ)) → ArePaired es pairs → (name : ℕ) → is_paired pairs name ≡ true
    → IsOwn es name
paired_own es pairs paired name e =
    let found = any_from (is_end name) pairs e in
    end_paired es found.0 name (paired_twins es pairs paired found.0 found.1) found.2

pub paired_known : (es : List Entry) (pairs : List (ℕ × ℕ)) → ArePaired es pairs → (name : ℕ) → is_paired pairs name ≡ true
    → unknown_in es name ≡ false
paired_known es pairs paired name e = own_known es name (paired_own es pairs paired name e)

-- a name that may be set to the value, and those that are joined with it

pub settable_own : (es : List Entry) (name : ℕ) (value : Value) → Settable es (name_of name, value) → IsOwn es name
settable_own es name value s = own_from es name s.known s.writable s.free

pub own_settable : (es : List Entry) (name : ℕ) (value : Value) → IsOwn es name → kind_of value ≡ kind_at es name
    → Settable es (name_of name, value)
own_settable es name value own kind = record {
  known = own_known es name own;
  writable = own.free;
  kind = kind;
  free = own_unbound es name own;
}

pub joined_settable : (es : List Entry) (pairs : List (ℕ × ℕ)) → ArePaired es pairs → (name other : ℕ) (value : Value)
    → joined pairs name other ≡ true → Settable es (name_of name, value) → Settable es (name_of other, value)
joined_settable es pairs paired name other value e s =
    own_settable es other value (joined_own es pairs paired name other e (settable_own es name value s))
    (s.kind ∙ sym (joined_kind es pairs paired name other e))

pub joined_within : (es : List Entry) (pairs : List (ℕ × ℕ)) → ArePaired es pairs → (name other : ℕ) → joined pairs name other ≡ true
    → IsOwn es name → other < length es
joined_within es pairs paired name other e own = own_within es other (joined_own es pairs paired name other e own)

-- where each pair may be set, all may
pub all_settable : (group : List (Name × Value)) (es : List Entry)
    → ((pair : Name × Value) → Contains group pair → Settable es pair) → set_refusal group es ≡ None
unfolding set_refusal
all_settable group es each =
    rw (
      refused_none_from _ (λ (name : Name). unknown_in es name.0) (pair_names group) (λ name c. known name (found name c)),
      refused_none_from _ (λ (name : Name). read_only_in es name.0) (pair_names group) (λ name c. writable name (found name c)),
      refused_none_from _ (λ (pair : Name × Value). not (same_kind (kind_of pair.1) (kind_at es pair.0.0))) group fits,
    )
    (refused_none_from _ (λ (name : Name). bound_in es name.0) (pair_names group) (λ name c. free name (found name c)))
  where
    found : (name : Name) → Contains (pair_names group) name → (pair : Name × Value) × Contains group pair × (pair.0 ≡ name)
    found name c = map_contains (λ (pair : Name × Value). pair.0) group name c

    known : (name : Name) → (pair : Name × Value) × Contains group pair × (pair.0 ≡ name) → unknown_in es name.0 ≡ false
    known name f = subst (λ (n : Name). unknown_in es n.0 ≡ false) f.2 (each f.0 f.1).known

    writable : (name : Name) → (pair : Name × Value) × Contains group pair × (pair.0 ≡ name) → read_only_in es name.0 ≡ false
    writable name f = subst (λ (n : Name). read_only_in es n.0 ≡ false) f.2 (each f.0 f.1).writable

    free : (name : Name) → (pair : Name × Value) × Contains group pair × (pair.0 ≡ name) → bound_in es name.0 ≡ false
    free name f = subst (λ (n : Name). bound_in es n.0 ≡ false) f.2 (each f.0 f.1).free

    fits : (pair : Name × Value) → Contains group pair → not (same_kind (kind_of pair.1) (kind_at es pair.0.0)) ≡ false
    fits pair c = ap not ((Decides-kind (kind_of pair.1) (kind_at es pair.0.0)).1 (each pair c).kind)

-- each name that is joined with one that may be set to the value may be set to it, whatever list names them
pub group_settable : (es : List Entry) (pairs : List (ℕ × ℕ)) → ArePaired es pairs → (test : ℕ → Bool) (name : ℕ) (value : Value)
    → Settable es (name_of name, value) → ((other : ℕ) → test other ≡ true → joined pairs name other ≡ true)
    → (group : List (Name × Value)) → IsGroup group test value es → set_refusal group es ≡ None
group_settable es pairs paired test name value s within group g = all_settable group es each
  where
    each : (pair : Name × Value) → Contains group pair → Settable es pair
    each pair c =
        let passes : test pair.0.0 ≡ true = g.passes pair.0.0 (contains_map (λ (p : Name × Value). p.0.0) group pair c) in
        subst (λ (v : Value). Settable es (pair.0, v)) (sym (g.one_value pair c))
        (joined_settable es pairs paired name pair.0.0 value (within pair.0.0 passes) s)

pub set_settable : (es : List Entry) (name : Name) (value : Value) → set_refusal ((name, value) ∷ []) es ≡ None → Settable es (name, value)
set_settable es name value e = settable ((name, value) ∷ []) es e (name, value) (contains_first (name, value) [])

-- just as the one name, so the group
pub group_unrefused : (es : List Entry) (pairs : List (ℕ × ℕ)) → ArePaired es pairs → (name : Name) (value : Value)
    → set_refusal ((name, value) ∷ []) es ≡ None → (group : List (Name × Value)) → IsGroup group (joined pairs name.0) value es
    → set_refusal group es ≡ None
group_unrefused es pairs paired name value e group g =
    group_settable es pairs paired (joined pairs name.0) name.0 value (set_settable es name value e) (λ other j. j) group g
