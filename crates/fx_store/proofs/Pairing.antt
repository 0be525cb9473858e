-- A further pair: the first name and all that are joined with it take the value of the other.
use Rattle.std.proofs.Common.{◌≡◌, ℕ, ◌==◌, ◌⊎◌, Bool, true, false, cond, not, ◌&&◌, List, [], ◌∷◌, ◌++◌, length, Contains, refl, sym, subst, ap, inl, inr, ◌∙◌}
use Rattle.std.specs.List.{range_with_len}
use Rattle.std.proofs.lemmas.Bool.{and_from, and_left, and_parts, and_right, both_ways, cases_Bool, cases_eq, eq-eqb, false_from_ne_true, ne_eqb, not_from_false, not_from_true}
use Rattle.std.proofs.lemmas.List.Elements.{All-append, filter_agree}
use Rattle.fx_base.specs.declared.values.Value.{Value}
use Rattle.fx_store_model.specs.Making.{with_group}
use Rattle.fx_store_model.proofs.Grouping.{group_changed}
use Rattle.fx_store_pairs.specs.Pairs.{group, joined}
use Rattle.fx_store_pairs.proofs.Joining.{joined-pair, joined-refl, joined-sym, joined-trans}
use Rattle.fx_graph_model.specs.declared.entries.Entry.{Entry}
use Rattle.fx_graph_model.specs.declared.entries.Definition.TheVariants.{Base}
use Rattle.fx_graph_model.specs.Eager.{eager}
use Rattle.fx_graph_model.specs.Equality.{same_value}
use Rattle.fx_graph_model.specs.Refusals.{kind_at}
use Rattle.fx_graph_model.specs.Uses.{entry_of}
use Rattle.fx_graph_model.proofs.Flags.{same_test}
use Rattle.fx_graph_model.proofs.Members.{contains_cases, none_in_nil}
use Rattle.fx_graph_model.proofs.Same.{Decides-value}
use Rattle.fx_store.specs.Kept.{ArePaired, AreTwins}
use Rattle.fx_store.proofs.Twins.{IsOwn, all_from, joined_eager, own_eager, own_known, twins_one, twins_other}
use Rattle.fx_store.proofs.Staying.{AreBase, Stays, StaysAt, base_in, base_out, paired_stays, stays_group}

abbrev pub pair_test : List (ℕ × ℕ) → ℕ → ℕ → ℕ → Bool
pair_test pairs one other name = joined pairs one name && not (name == other)

abbrev pub with_pair : List (ℕ × ℕ) → ℕ → ℕ → List Entry → List Entry
with_pair pairs one other entries = with_group (pair_test pairs one other) (eager entries other) entries

other_passes : (pairs : List (ℕ × ℕ)) (one other : ℕ) → pair_test pairs one other other ≡ false
other_passes pairs one other = and_right (joined pairs one other) _ (not_from_true (other == other) (eq-eqb other other refl))

other_stays : (es : List Entry) (pairs : List (ℕ × ℕ)) (one other : ℕ) → IsOwn es other
    → (entry_of (with_pair pairs one other es) other).definition ≡ Base (eager es other)
other_stays es pairs one other own =
    base_out (pair_test pairs one other) (eager es other) es other (eager es other)
    (own.has ∙ ap Base (sym (own_eager es other own))) (other_passes pairs one other)

-- whoever is joined with the first has the value of the other
joined_takes : (es : List Entry) (pairs : List (ℕ × ℕ)) (one other : ℕ) → IsOwn es other → (name : ℕ) → IsOwn es name
    → joined pairs one name ≡ true → (entry_of (with_pair pairs one other es) name).definition ≡ Base (eager es other)
joined_takes es pairs one other own name has e =
    elim (cases_eq name other) [
      | inl here ↦
          subst (λ n. (entry_of (with_pair pairs one other es) n).definition ≡ Base (eager es other)) (sym here)
          (other_stays es pairs one other own)
      | inr differs ↦
          base_in (pair_test pairs one other) (eager es other) es name has
          (and_from _ _ e (not_from_false (name == other) (ne_eqb name other differs)))
    ]

old_pairs : (es : List Entry) (pairs : List (ℕ × ℕ)) (one other : ℕ) → ArePaired es pairs → IsOwn es other
    → ArePaired (with_pair pairs one other es) pairs
old_pairs es pairs one other paired own =
    paired_stays es (with_pair pairs one other es) pairs (stays_group (pair_test pairs one other) (eager es other) es) paired
    (λ pair c twins. by_case pair c twins (cases_Bool (joined pairs one pair.0)))
  where
    by_case : (pair : ℕ × ℕ) → Contains pairs pair → AreTwins es pair.0 pair.1
        → (joined pairs one pair.0 ≡ true) ⊎ (joined pairs one pair.0 ≡ false)
        → (v : Value) × AreBase (with_pair pairs one other es) pair v
    by_case pair c twins (inl within) = (
      eager es other,
      (
        joined_takes es pairs one other own pair.0 (twins_one es pair.0 pair.1 twins) within,
        joined_takes es pairs one other own pair.1 (twins_other es pair.0 pair.1 twins)
            (joined-trans pairs one pair.0 pair.1 within (joined-pair pairs pair c)),
      ),
    )
    by_case pair c twins (inr out) = (
      twins.value,
      (
        base_out (pair_test pairs one other) (eager es other) es pair.0 twins.value twins.one_value (and_left _ _ out),
        base_out (pair_test pairs one other) (eager es other) es pair.1 twins.value twins.other_value
            (and_left _ _
            (false_from_ne_true (joined pairs one pair.1)
            (λ e. both_ways _ out (joined-trans pairs one pair.1 pair.0 e (joined-sym pairs pair.0 pair.1 (joined-pair pairs pair c)))))),
      ),
    )

new_twins : (es : List Entry) (pairs : List (ℕ × ℕ)) (one other : ℕ) → IsOwn es one → IsOwn es other
    → kind_at es one ≡ kind_at es other → AreTwins (with_pair pairs one other es) one other
new_twins es pairs one other own_one own_other kind =
    let stays : Stays es (with_pair pairs one other es) = stays_group (pair_test pairs one other) (eager es other) es in
    let first : StaysAt es (with_pair pairs one other es) one = stays one (own_known es one own_one) in
    let second : StaysAt es (with_pair pairs one other es) other = stays other (own_known es other own_other) in
    record {
      one_free = first.read_only ∙ own_one.free;
      other_free = second.read_only ∙ own_other.free;
      kind = first.kind ∙ kind ∙ sym second.kind;
      value = eager es other;
      one_value = joined_takes es pairs one other own_other one own_one (joined-refl pairs one);
      other_value = other_stays es pairs one other own_other;
    }

pub paired_more : (es : List Entry) (pairs : List (ℕ × ℕ)) (one other : ℕ) → ArePaired es pairs → IsOwn es one → IsOwn es other
    → kind_at es one ≡ kind_at es other → ArePaired (with_pair pairs one other es) (pairs ++ (one, other) ∷ [])
paired_more es pairs one other paired own_one own_other kind =
    All-append (λ (p : ℕ × ℕ). AreTwins (with_pair pairs one other es) p.0 p.1) pairs ((one, other) ∷ [])
    (old_pairs es pairs one other paired own_other)
    (all_from (λ (p : ℕ × ℕ). AreTwins (with_pair pairs one other es) p.0 p.1) ((one, other) ∷ []) last)
  where
    last : (p : ℕ × ℕ) → Contains ((one, other) ∷ []) p → AreTwins (with_pair pairs one other es) p.0 p.1
    last p c =
        elim (contains_cases (one, other) [] p c) [
          | inl here ↦
              subst (λ (q : ℕ × ℕ). AreTwins (with_pair pairs one other es) q.0 q.1) here
              (new_twins es pairs one other own_one own_other kind)
          | inr none ↦ absurd (none_in_nil p none)
        ]

-- where the two were joined before, nothing changes; else just the first one's names may
pub pair_changed : (es : List Entry) (pairs : List (ℕ × ℕ)) (one other : ℕ) → ArePaired es pairs → (one ≡ other → ⊥)
    → group_changed (pair_test pairs one other) (eager es one) (eager es other) es
    ≡ cond (same_value (eager es one) (eager es other)) [] (group pairs (length es) one)
pair_changed es pairs one other paired differs = by_case (cases_Bool (joined pairs one other))
  where
    same : joined pairs one other ≡ true → same_value (eager es one) (eager es other) ≡ true
    same e = (Decides-value (eager es one) (eager es other)).1 (sym (joined_eager es pairs paired one other e))

    agree : joined pairs one other ≡ false → (name : ℕ) → pair_test pairs one other name ≡ joined pairs one name
    agree out name =
        same_test _ _ (λ e. (and_parts (joined pairs one name) (not (name == other)) e).0)
        (λ e. and_from _ _ e
        (not_from_false (name == other)
        (ne_eqb name other (λ here. both_ways _ out (subst (λ n. joined pairs one n ≡ true) here e)))))

    by_case : (joined pairs one other ≡ true) ⊎ (joined pairs one other ≡ false)
        → group_changed (pair_test pairs one other) (eager es one) (eager es other) es
        ≡ cond (same_value (eager es one) (eager es other)) [] (group pairs (length es) one)
    by_case (inl joins) = rw (same joins) refl
    by_case (inr out) =
        ap (λ ns. cond (same_value (eager es one) (eager es other)) [] ns)
        (filter_agree (pair_test pairs one other) (joined pairs one) (agree out) (range_with_len 0 (length es)))
