-- Rows of names, as one of them is found, loses a name or goes.
use Rattle.std.proofs.Common.{◌≡◌, All, ◌<◌, ◌≤◌, ℕ, Bool, true, false, cond, not, filter, nat_eq, ltb, ◌==◌, Option, Some, None, is_some, unwrap_or, List, [], ◌∷◌, length, suc, refl, sym, ap, subst, ◌∙◌, inl, inr, arith}
use Rattle.std.specs.List.{position, position_or_len, remove}
use Rattle.std.specs.Map.{lookup}
use Rattle.std.specs.Map.Calls.{RetainsPairs}
use Rattle.std.specs.Option.{option_map_or}
use Rattle.std.specs.Set.{remove_key}
use Rattle.std.proofs.lemmas.Bool.{cases_Bool, both_ways, eqb-true, ltb-true, ltb-false, or_cases}
use Rattle.std.proofs.lemmas.List.Elements.{All-head, All-tail}
use Rattle.fx_base.specs.declared.keys.Name.{Name}
use Rattle.fx_base.specs.Names.{numbers}
use Rattle.fx_store_pairs.specs.Pairs.{is_among}

pub numbers_filter : (test : ℕ → Bool) (names : List Name)
    → numbers (filter (λ (name : Name). test name.0) names) ≡ filter test (numbers names)
numbers_filter test [] = refl
numbers_filter test (name ∷ names) =
    elim (cases_Bool (test name.0)) [
      | inl passes ↦ rw (passes, numbers_filter test names) refl
      | inr fails ↦ rw (fails, numbers_filter test names) refl
    ]

removed_at : (number : ℕ) (names : List Name) (place : ℕ)
    → place ≡ position_or_len (λ (name : Name). name.0 == number) names
    → place < length names → numbers (remove names place) ≡ remove_key (λ (other : ℕ). other == number) (numbers names)
removed_at number [] place at within = absurd (omega (arith, within))
removed_at number (name ∷ names) place at within =
    elim (cases_Bool (name.0 == number)) [
      | inl here ↦
          let first : place ≡ 0 = at ∙ rw here refl in
          rw (first, here) refl
      | inr elsewhere ↦
          let before : ℕ = position_or_len (λ (n : Name). n.0 == number) names in
          let later : place ≡ suc before = at ∙ rw elsewhere (omega arith) in
          let rest : numbers (remove names before) ≡ remove_key (λ (other : ℕ). other == number) (numbers names) =
          removed_at number names before refl (omega arith) in
          rw (later, elsewhere) (ap (λ (ns : List ℕ). name.0 ∷ ns) rest)
    ]

none_removed : (number : ℕ) (names : List Name)
    → length names ≤ position_or_len (λ (name : Name). name.0 == number) names
    → numbers names ≡ remove_key (λ (other : ℕ). other == number) (numbers names)
none_removed number [] past = refl
none_removed number (name ∷ names) past =
    elim (cases_Bool (name.0 == number)) [
      | inl here ↦
          let first : position_or_len (λ (n : Name). n.0 == number) (name ∷ names) ≡ 0 = rw here refl in
          absurd (omega (arith, past))
      | inr elsewhere ↦
          let before : ℕ = position_or_len (λ (n : Name). n.0 == number) names in
          let later : position_or_len (λ (n : Name). n.0 == number) (name ∷ names) ≡ suc before =
          rw elsewhere (omega arith) in
          rw elsewhere (ap (λ (ns : List ℕ). name.0 ∷ ns) (none_removed number names (omega (arith, past))))
    ]

pub first_removed : (number : ℕ) (names : List Name) (place : ℕ)
    → position (λ (name : Name). name.0 == number) names ≡ Some place
    → numbers (remove names place) ≡ remove_key (λ (other : ℕ). other == number) (numbers names)
first_removed number names place e =
    let before : ℕ = position_or_len (λ (n : Name). n.0 == number) names in
    elim (cases_Bool (ltb before (length names))) [
      | inl within ↦
          let same : before ≡ place = ap (λ (o : Option ℕ). unwrap_or o 0) (rw within at e) in
          removed_at number names place (sym same) (omega (arith, ltb-true before (length names) within, same))
      | inr past ↦ absurd (both_ways false refl (ap (λ (o : Option ℕ). is_some o) (rw past at e)))
    ]

pub nothing_removed : (number : ℕ) (names : List Name) → position (λ (name : Name). name.0 == number) names ≡ None
    → numbers names ≡ remove_key (λ (other : ℕ). other == number) (numbers names)
nothing_removed number names e =
    let before : ℕ = position_or_len (λ (n : Name). n.0 == number) names in
    elim (cases_Bool (ltb before (length names))) [
      | inl within ↦ absurd (both_ways true (ap (λ (o : Option ℕ). is_some o) (rw within at e)) refl)
      | inr past ↦ none_removed number names (omega (arith, ltb-false before (length names) past))
    ]

-- what holds of each of some names holds of a number among theirs
pub of_among : (P : ℕ → Type 0) (names : List Name) → All (λ (name : Name). P name.0) names
    → (number : ℕ) → is_among (numbers names) number ≡ true → P number
of_among P [] all number e = absurd (both_ways false refl e)
of_among P (name ∷ names) all number e =
    elim (or_cases (name.0 == number) (is_among (numbers names) number) e) [
      | inl here ↦ subst P (eqb-true name.0 number here) (All-head (λ (n : Name). P n.0) name names all)
      | inr later ↦ of_among P names (All-tail (λ (n : Name). P n.0) name names all) number later
    ]

-- entries of which a closure leaves those of some keys, each with other names
pub retained : {F X : Type 0} (T : F → ℕ → X → Bool → X → F → Type 0)
    → (gone : ℕ → Bool) (items : X → List Name) (left : List ℕ → List ℕ) (f : F)
    → left [] ≡ []
    → ((k : ℕ) (v : X) (b : Bool) (w : X) (f' : F) → T f k v b w f'
    → (b ≡ not (gone k)) × (b ≡ true → numbers (items w) ≡ left (numbers (items v))) × (f' ≡ f))
    → (es kept : List (ℕ × X)) → RetainsPairs T f es kept
    → (q : ℕ) → numbers (option_map_or items (lookup (nat_eq q) kept) [])
    ≡ cond (gone q) [] (left (numbers (option_map_or items (lookup (nat_eq q) es) [])))
retained T gone items left f empty h [] kept r q =
    ap (λ (es : List (ℕ × _)). numbers (option_map_or items (lookup (nat_eq q) es) [])) r
    ∙ elim (cases_Bool (gone q)) [ inl goes ↦ rw goes refl | inr stays ↦ rw stays (sym empty) ]
retained {F} {X} T gone items left f empty h (e ∷ es) kept r q =
    let a = h e.0 e.1 r.0 r.1 r.2 r.4 in
    let rest : numbers (option_map_or items (lookup (nat_eq q) r.3) [])
    ≡ cond (gone q) [] (left (numbers (option_map_or items (lookup (nat_eq q) es) []))) =
    retained T gone items left f empty h es r.3 (subst (λ u. RetainsPairs T u es r.3) a.2 r.5) q in
    ap (λ (es : List (ℕ × X)). numbers (option_map_or items (lookup (nat_eq q) es) [])) r.6
    ∙ elim (cases_Bool (nat_eq q e.0)) [
      | inl here ↦
          let same : gone q ≡ gone e.0 = ap gone (eqb-true q e.0 here) in
          elim (cases_Bool (gone e.0)) [
            | inl goes ↦
                let off : r.0 ≡ false = a.0 ∙ rw goes refl in
                rw (off, same, goes) (rest ∙ rw (same, goes) refl)
            | inr stays ↦
                let on : r.0 ≡ true = a.0 ∙ rw stays refl in
                rw (on, here, same, stays) (a.1 on)
          ]
      | inr away ↦
          elim (cases_Bool r.0) [
            | inl on ↦ rw (on, away) rest
            | inr off ↦ rw (off, away) rest
          ]
    ]
