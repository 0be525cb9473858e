-- Children are counted one node after another.
use Rattle.std.proofs.Common.{refl, sym, ap, subst, ◌∙◌, ◌≡◌, ℕ, ◌+◌, ◌<◌, Bool, true, false, List, length, set, take, nat_eq, None, Some, inl, inr, arith}
use Rattle.std.specs.Prelude.{count_by, slice_index}
use Rattle.std.proofs.lemmas.Bool.{cases_order, eq-eqb}
use Rattle.std.proofs.lemmas.Bool.Decides.{Decides-eqb}
use Rattle.std.proofs.lemmas.List.{get_or-set_other, get_or-set_same, length-set}
use Rattle.std.proofs.lemmas.List.Sums.{count_by_more_no, count_by_more_yes}
use Rattle.fx_layout_sweeps.specs.Nodes.{Parents, is_place, parent_at}
use Rattle.fx_pulse.specs.Drawing.{AreCounts}

pub counts_none : (ups : Parents) (counts : List ℕ) (k : ℕ) → k < length ups → parent_at ups k ≡ None
    → AreCounts ups counts k → AreCounts ups counts (k + 1)
counts_none ups counts k within is are = record {
  each = are.each;
  counted = λ p few. are.counted p few
      ∙ sym (count_by_more_no (is_place p) ups k None within (ap (is_place p) is));
}

pub counts_some : (ups : Parents) (counts : List ℕ) (k q : ℕ) → k < length ups → q < length ups
    → parent_at ups k ≡ Some q → AreCounts ups counts k
    → AreCounts ups (set counts q (slice_index counts q + 1)) (k + 1)
counts_some ups counts k q within there is are = record {
  each = length-set counts q (slice_index counts q + 1) ∙ are.each;
  counted = λ p few. elim (cases_order p q) [
    | inl same ↦ subst (λ r. slice_index (set counts q (slice_index counts q + 1)) r
        ≡ count_by (is_place r) (take (k + 1) ups)) (sym same) here
    | inr (inl less) ↦ other p few (λ same. absurd (omega (arith, same, less)))
    | inr (inr more) ↦ other p few (λ same. absurd (omega (arith, same, more)))
  ];
}
  where
    here : slice_index (set counts q (slice_index counts q + 1)) q ≡ count_by (is_place q) (take (k + 1) ups)
    here =
        get_or-set_same counts q (slice_index counts q + 1) 0 (omega (arith, there, are.each))
        ∙ (ap (λ n. n + 1) (are.counted q there)
        ∙ sym (count_by_more_yes (is_place q) ups k None within (ap (is_place q) is ∙ eq-eqb q q refl)))

    no : (p q : ℕ) → (p ≡ q → ⊥) → nat_eq p q ≡ false
    no p q differ = apart (nat_eq p q) refl
      where
        apart : (b : Bool) → nat_eq p q ≡ b → nat_eq p q ≡ false
        apart true e = absurd (differ ((Decides-eqb p q).0 e))
        apart false e = e

    other : (p : ℕ) → p < length ups → (p ≡ q → ⊥)
        → slice_index (set counts q (slice_index counts q + 1)) p ≡ count_by (is_place p) (take (k + 1) ups)
    other p few differ =
        get_or-set_other counts q p (slice_index counts q + 1) 0 differ
        ∙ (are.counted p few
        ∙ sym (count_by_more_no (is_place p) ups k None within (ap (is_place p) is ∙ no p q differ)))
