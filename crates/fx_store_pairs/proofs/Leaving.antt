-- What is left of pairs where some are taken out, by the numbers of their names.
use Rattle.std.proofs.Common.{◌≡◌, ◌<◌, ◌≤◌, ℕ, suc, Bool, filter, List, [], ◌∷◌, length, refl, ap, ◌∙◌, inl, inr, arith}
use Rattle.std.specs.List.{position_or_len, remove}
use Rattle.std.proofs.lemmas.Bool.{cases_Bool}
use Rattle.fx_base.specs.declared.keys.Name.{Name}
use Rattle.fx_store_pairs.specs.Pairs.{pairs_of, is_pair, without_pair}

pub pairs_of_filter : (test : ℕ × ℕ → Bool) (pairs : List (Name × Name))
    → pairs_of (filter (λ (pair : Name × Name). test (pair.0.0, pair.1.0)) pairs) ≡ filter test (pairs_of pairs)
pairs_of_filter test [] = refl
pairs_of_filter test (pair ∷ pairs) =
    elim (cases_Bool (test (pair.0.0, pair.1.0))) [
      | inl passes ↦ rw (passes, pairs_of_filter test pairs) refl
      | inr fails ↦ rw (fails, pairs_of_filter test pairs) refl
    ]

-- at the place of the first pair of the two
pub first_gone : (one other : ℕ) (pairs : List (Name × Name)) (place : ℕ) → place ≡ position_or_len (is_pair one other) (pairs_of pairs)
    → place < length pairs → pairs_of (remove pairs place) ≡ without_pair one other (pairs_of pairs)
first_gone one other [] place at within = absurd (omega arith)
first_gone one other (pair ∷ pairs) place at within =
    elim (cases_Bool (is_pair one other (pair.0.0, pair.1.0))) [
      | inl here ↦
          let first : place ≡ 0 = at ∙ rw here refl in
          rw (first, here) refl
      | inr elsewhere ↦
          let before : ℕ = position_or_len (is_pair one other) (pairs_of pairs) in
          let later : place ≡ suc before = at ∙ rw elsewhere (omega arith) in
          let rest : pairs_of (remove pairs before) ≡ without_pair one other (pairs_of pairs) =
          first_gone one other pairs before refl (omega arith) in
          rw (later, elsewhere) (ap (λ (ps : List (ℕ × ℕ)). (pair.0.0, pair.1.0) ∷ ps) rest)
    ]

pub none_gone : (one other : ℕ) (pairs : List (Name × Name)) → length pairs ≤ position_or_len (is_pair one other) (pairs_of pairs)
    → pairs_of pairs ≡ without_pair one other (pairs_of pairs)
none_gone one other [] past = refl
none_gone one other (pair ∷ pairs) past =
    elim (cases_Bool (is_pair one other (pair.0.0, pair.1.0))) [
      | inl here ↦
          let first : position_or_len (is_pair one other) (pairs_of (pair ∷ pairs)) ≡ 0 = rw here refl in
          absurd (omega arith)
      | inr elsewhere ↦
          let before : ℕ = position_or_len (is_pair one other) (pairs_of pairs) in
          let later : position_or_len (is_pair one other) (pairs_of (pair ∷ pairs)) ≡ suc before = rw elsewhere (omega arith) in
          rw elsewhere (ap (λ (ps : List (ℕ × ℕ)). (pair.0.0, pair.1.0) ∷ ps) (none_gone one other pairs (omega arith)))
    ]
