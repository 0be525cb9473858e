-- A place that has the key is the one where it stands, since no two keys are one.
use Rattle.std.proofs.Common.{sym, ap, ◌∙◌, ◌≡◌, ℕ, ◌<◌, true, eqb, List, length, slice_index_or, inl, inr, arith}
use Rattle.std.proofs.lemmas.Bool.{and_parts, cases_Bool, eqb-true}
use Rattle.std.proofs.lemmas.List.Sums.{position_or_len_is}
use Rattle.fx_base.specs.declared.keys.NodeKey.{NodeKey}
use Rattle.fx_layout.specs.Updates.{AreDifferent, is_key, old_place}

pub same_key : (a b : NodeKey) → is_key a b ≡ true → a ≡ b
same_key a b e =
    let parts = and_parts (eqb a.slot b.slot) (eqb a.birth b.birth) e in
    ap (λ (n : ℕ). record a { slot = n }) (eqb-true a.slot b.slot parts.0)
    ∙ ap (λ (n : ℕ). record b { birth = n }) (eqb-true a.birth b.birth parts.1)

pub old_place_is : (old : List NodeKey) (key : NodeKey) (guess : ℕ) → AreDifferent old → guess < length old
    → is_key (slice_index_or old guess key) key ≡ true → old_place old key ≡ guess
old_place_is old key guess differ within hit =
    position_or_len_is (λ (one : NodeKey). is_key one key) old guess key (omega (arith, within))
    (λ k below. elim (cases_Bool (is_key (slice_index_or old k key) key)) [
      | inr miss ↦ miss
      | inl other ↦ absurd (differ k guess key below within
          (same_key (slice_index_or old k key) key other ∙ sym (same_key (slice_index_or old guess key) key hit)))
    ])
    (λ inside. hit)
