-- One name among others that rise, found by halves; and the same names in another order.
use Rattle.std.proofs.Common.{◌≡◌, ◌<◌, ◌≤◌, ◌==◌, ◌||◌, ℕ, zero, suc, Bool, true, false, leb, ltb, List, [], ◌∷◌, length, get_or, refl, sym, ap, ◌∙◌, inl, inr, arith}
use Rattle.std.specs.List.{list_any}
use Rattle.std.specs.List.Sorted.{IsPartitionPoint}
use Rattle.std.proofs.lemmas.Bool.{and_parts, cases_eq, cases_lt, eq-eqb, leb-true, ltb-false, ltb-true, ne_eqb}
use Rattle.std.proofs.lemmas.List.{get_or_default}
use Rattle.std.proofs.lemmas.List.Folds.{list_any_at, list_any_none}
use Rattle.fx_base.specs.declared.keys.Name.{Name}
use Rattle.fx_base.specs.Names.{numbers}
use Rattle.fx_store_pairs.specs.Pairs.{is_among}
use Rattle.fx_store_pairs.specs.Rising.{DoRise, rises_from}

-- names that rise

all_from : (last : ℕ) (names : List Name) → rises_from last (numbers names) ≡ true
    → (k : ℕ) (d : Name) → k < length names → last ≤ (get_or names k d).0
all_from last [] e k d within = absurd (omega (arith, within))
all_from last (n ∷ ns) e zero d within = leb-true last n.0 (and_parts (leb last n.0) (rises_from n.0 (numbers ns)) e).0
all_from last (n ∷ ns) e (suc k) d within =
    let parts = and_parts (leb last n.0) (rises_from n.0 (numbers ns)) e in
    let first : last ≤ n.0 = leb-true last n.0 parts.0 in
    let rest : n.0 ≤ (get_or ns k d).0 = all_from n.0 ns parts.1 k d (omega (arith, within)) in
    omega (arith, first, rest)

pub rising_names : (last : ℕ) (names : List Name) → rises_from last (numbers names) ≡ true → DoRise names
rising_names last [] e i j d order within = absurd (omega (arith, within))
rising_names last (n ∷ ns) e zero zero d order within = omega arith
rising_names last (n ∷ ns) e zero (suc j) d order within =
    all_from n.0 ns (and_parts (leb last n.0) (rises_from n.0 (numbers ns)) e).1 j d (omega (arith, within))
rising_names last (n ∷ ns) e (suc i) zero d order within = absurd (omega (arith, order))
rising_names last (n ∷ ns) e (suc i) (suc j) d order within =
    rising_names n.0 ns (and_parts (leb last n.0) (rises_from n.0 (numbers ns)) e).1 i j d (omega (arith, order)) (omega (arith, within))

-- one name among them

any_numbers : (names : List Name) (name : ℕ) → is_among (numbers names) name ≡ list_any (λ (n : Name). n.0 == name) names
any_numbers [] name = refl
any_numbers (n ∷ ns) name = ap (λ (b : Bool). (n.0 == name) || b) (any_numbers ns name)

module _ (names : List Name) (name place : ℕ)
    (point : IsPartitionPoint (λ (n : Name). ltb n.0 name ≡ true) (λ (n : Name). ltb n.0 name ≡ false) names place) where
  unlike_below : (k : ℕ) (d : Name) → k < place → ((get_or names k d).0 == name) ≡ false
  unlike_below k d low =
      let less : (get_or names k d).0 < name = ltb-true _ _ (point.0 k d (omega arith) low) in
      ne_eqb (get_or names k d).0 name (λ e. absurd (omega (arith, e, less)))

  pub found_past : length names ≤ place → false ≡ is_among (numbers names) name
  found_past past =
      sym (any_numbers names name
      ∙ list_any_none (λ (n : Name). n.0 == name) names (λ k d below. unlike_below k d (omega (arith, below, past))))

  pub found_at : (d : Name) → DoRise names → place < length names
      → ((get_or names place d).0 == name) ≡ is_among (numbers names) name
  found_at d rise within =
      elim (cases_eq (get_or names place d).0 name) [
        | inl same ↦
            let yes : ((get_or names place d).0 == name) ≡ true = eq-eqb (get_or names place d).0 name same in
            yes ∙ sym (any_numbers names name ∙ list_any_at (λ (n : Name). n.0 == name) names place d within yes)
        | inr other ↦
            ne_eqb (get_or names place d).0 name other
            ∙ sym (any_numbers names name ∙ list_any_none (λ (n : Name). n.0 == name) names (unlike other))
      ]
    where
      unlike : ((get_or names place d).0 ≡ name → ⊥) → (k : ℕ) (e : Name) → k < length names → ((get_or names k e).0 == name) ≡ false
      unlike other k e below =
          elim (cases_lt k place) [
            | inl low ↦ unlike_below k e low
            | inr high ↦
                let from : name ≤ (get_or names place e).0 = ltb-false (get_or names place e).0 name (point.1 place e (omega arith) within) in
                let same : (get_or names place e).0 ≡ (get_or names place d).0 = ap (λ (n : Name). n.0) (get_or_default names place e d within) in
                let order : (get_or names place e).0 ≤ (get_or names k e).0 = rise place k e high below in
                ne_eqb (get_or names k e).0 name (λ here. other (omega (arith, from, same, order, here)))
          ]
