-- The partners of a name in the list of pairs, as the list changes.
use Rattle.std.proofs.Common.{◌≡◌, ℕ, Bool, true, false, cond, not, filter, ◌==◌, ◌&&◌, ◌||◌, List, [], ◌∷◌, ◌++◌, length, refl, sym, ap, ◌∙◌, inl, inr, arith}
use Rattle.std.specs.List.{list_any}
use Rattle.std.proofs.lemmas.Bool.{cases_Bool, both_ways, eqb-true, eq-eqb, or_cases, or_left, or_parts, or_right, and_parts, and_from, ne_eqb}
use Rattle.std.proofs.lemmas.List.{map-append}
use Rattle.fx_base.specs.declared.keys.Name.{Name}
use Rattle.fx_store_pairs.specs.Pairs.{is_among, is_end, is_pair, is_paired, is_touched, pairs_of, without_pair}
use Rattle.fx_store_pairs.specs.Rows.{partners, with_other_end, without_partner}
use Rattle.fx_store_pairs.specs.Gathering.{with_names}
use Rattle.fx_store_pairs.proofs.Gathered.{with_partners}

pub partners_append : (name : ℕ) (pairs more : List (ℕ × ℕ))
    → partners name (pairs ++ more) ≡ partners name pairs ++ partners name more
partners_append name [] more = refl
partners_append name (pair ∷ pairs) more =
    elim (cases_Bool (pair.0 == name)) [
      | inl first ↦ rw first (ap (λ (ns : List ℕ). pair.1 ∷ ns) (partners_append name pairs more))
      | inr other ↦
          elim (cases_Bool (pair.1 == name)) [
            | inl last ↦ rw (other, last) (ap (λ (ns : List ℕ). pair.0 ∷ ns) (partners_append name pairs more))
            | inr apart ↦ rw (other, apart) (partners_append name pairs more)
          ]
    ]

-- a name is paired where its row has a name
pub paired_row : (name : ℕ) (pairs : List (ℕ × ℕ)) → not (length (partners name pairs) == 0) ≡ is_paired pairs name
paired_row name [] = refl
paired_row name (pair ∷ pairs) =
    elim (cases_Bool (pair.0 == name)) [
      | inl first ↦ rw first (ap not (ne_eqb (length (pair.1 ∷ partners name pairs)) 0 (λ e. omega (arith, e))))
      | inr other ↦
          elim (cases_Bool (pair.1 == name)) [
            | inl last ↦
                rw (other, last) (ap not (ne_eqb (length (pair.0 ∷ partners name pairs)) 0 (λ e. omega (arith, e))))
            | inr apart ↦ rw (other, apart) (paired_row name pairs)
          ]
    ]

-- two names stand in a pair where the one has the other in its row
pub pair_among : (one other : ℕ) (pairs : List (ℕ × ℕ))
    → is_among (partners one pairs) other ≡ list_any (is_pair one other) pairs
pair_among one other [] = refl
pair_among one other (pair ∷ pairs) =
    elim (cases_Bool (pair.0 == one)) [
      | inl first ↦
          elim (cases_Bool (pair.1 == other)) [
            | inl last ↦ rw (first, last) refl
            | inr apart ↦
                elim (cases_Bool (pair.0 == other)) [
                  | inl turned ↦
                      let same : one ≡ other = sym (eqb-true pair.0 one first) ∙ eqb-true pair.0 other turned in
                      let never : (pair.1 == one) ≡ false = ap (λ n. pair.1 == n) same ∙ apart in
                      rw (first, apart, turned, never) (pair_among one other pairs)
                  | inr none ↦ rw (first, apart, none) (pair_among one other pairs)
                ]
          ]
      | inr away ↦
          elim (cases_Bool (pair.1 == one)) [
            | inl last ↦
                elim (cases_Bool (pair.0 == other)) [
                  | inl turned ↦ rw (away, last, turned) refl
                  | inr none ↦ rw (away, last, none) (pair_among one other pairs)
                ]
            | inr apart ↦
                elim (cases_Bool (pair.0 == other)) [
                  | inl turned ↦ rw (away, apart, turned) (pair_among one other pairs)
                  | inr none ↦ rw (away, apart, none) (pair_among one other pairs)
                ]
          ]
    ]

pub no_pair : (one other : ℕ) (pairs : List (ℕ × ℕ))
    → list_any (is_pair one other) pairs ≡ false → without_pair one other pairs ≡ pairs
no_pair one other [] e = refl
no_pair one other (pair ∷ pairs) e =
    elim (cases_Bool (is_pair one other pair)) [
      | inl here ↦ absurd (both_ways true (rw here at e) refl)
      | inr away ↦ rw away (ap (λ (ps : List (ℕ × ℕ)). pair ∷ ps) (no_pair one other pairs (rw away at e)))
    ]

-- the row of each name at the end of the first pair of two

end_gone : (one other name : ℕ) (row : List ℕ)
    → without_partner one other name (with_other_end name (one, other) row) ≡ row
end_gone one other name row =
    elim (cases_Bool (one == name)) [
      | inl first ↦ rw (first, eq-eqb other other refl) refl
      | inr away ↦
          elim (cases_Bool (other == name)) [
            | inl last ↦ rw (away, last, eq-eqb one one refl) refl
            | inr apart ↦ rw (away, apart) refl
          ]
    ]

turned_end_gone : (one other name : ℕ) (row : List ℕ)
    → without_partner one other name (with_other_end name (other, one) row) ≡ row
turned_end_gone one other name row =
    elim (cases_Bool (other == name)) [
      | inl last ↦
          elim (cases_Bool (one == name)) [
            | inl first ↦
                let same : (one == other) ≡ true =
                eq-eqb one other (eqb-true one name first ∙ sym (eqb-true other name last)) in
                rw (last, first, same) refl
            | inr away ↦ rw (last, away, eq-eqb one one refl) refl
          ]
      | inr apart ↦
          elim (cases_Bool (one == name)) [
            | inl first ↦ rw (apart, first, eq-eqb other other refl) refl
            | inr away ↦ rw (apart, away) refl
          ]
    ]

-- of a pair with one end at one of two names and not of the two, the other end is not the other of them
not_last : (one other : ℕ) (pair : ℕ × ℕ) → is_pair one other pair ≡ false → pair.0 ≡ one → (pair.1 == other) ≡ false
not_last one other pair away first =
    elim (cases_Bool (pair.1 == other)) [
      | inl ends ↦
          absurd (both_ways (is_pair one other pair) away (or_left _ _ (and_from _ _ (eq-eqb pair.0 one first) ends)))
      | inr apart ↦ apart
    ]

not_first : (one other : ℕ) (pair : ℕ × ℕ) → is_pair one other pair ≡ false → pair.1 ≡ other → (pair.0 == one) ≡ false
not_first one other pair away last =
    elim (cases_Bool (pair.0 == one)) [
      | inl ends ↦
          absurd (both_ways (is_pair one other pair) away (or_left _ _ (and_from _ _ ends (eq-eqb pair.1 other last))))
      | inr apart ↦ apart
    ]

pair_turned : (one other : ℕ) (pair : ℕ × ℕ) → is_pair one other pair ≡ is_pair other one pair
pair_turned one other pair = or_swapped ((pair.0 == one) && (pair.1 == other)) ((pair.0 == other) && (pair.1 == one))
  where
    or_swapped : (a b : Bool) → (a || b) ≡ (b || a)
    or_swapped true true = refl
    or_swapped true false = refl
    or_swapped false true = refl
    or_swapped false false = refl

end_kept : (one other name : ℕ) (pair : ℕ × ℕ) (row : List ℕ) → is_pair one other pair ≡ false
    → with_other_end name pair (without_partner one other name row)
    ≡ without_partner one other name (with_other_end name pair row)
end_kept one other name pair row away =
    elim (cases_Bool (one == name)) [
      | inl first ↦ at_one first
      | inr else' ↦
          elim (cases_Bool (other == name)) [
            | inl last ↦ at_other else' last
            | inr apart ↦ rw (else', apart) refl
          ]
    ]
  where
    turned : is_pair other one pair ≡ false
    turned = sym (pair_turned one other pair) ∙ away

    at_one : (one == name) ≡ true
        → with_other_end name pair (without_partner one other name row)
        ≡ without_partner one other name (with_other_end name pair row)
    at_one first =
        let here : name ≡ one = sym (eqb-true one name first) in
        elim (cases_Bool (pair.0 == name)) [
          | inl begins ↦
              let never : (pair.1 == other) ≡ false =
              not_last one other pair away (eqb-true pair.0 name begins ∙ here) in
              rw (first, begins, never) refl
          | inr other' ↦
              elim (cases_Bool (pair.1 == name)) [
                | inl ends ↦
                    let never : (pair.0 == other) ≡ false =
                    not_first other one pair turned (eqb-true pair.1 name ends ∙ here) in
                    rw (first, other', ends, never) refl
                | inr none ↦ rw (first, other', none) refl
              ]
        ]

    at_other : (one == name) ≡ false → (other == name) ≡ true
        → with_other_end name pair (without_partner one other name row)
        ≡ without_partner one other name (with_other_end name pair row)
    at_other else' last =
        let here : name ≡ other = sym (eqb-true other name last) in
        elim (cases_Bool (pair.0 == name)) [
          | inl begins ↦
              let never : (pair.1 == one) ≡ false =
              not_last other one pair turned (eqb-true pair.0 name begins ∙ here) in
              rw (else', last, begins, never) refl
          | inr other' ↦
              elim (cases_Bool (pair.1 == name)) [
                | inl ends ↦
                    let never : (pair.0 == one) ≡ false =
                    not_first one other pair away (eqb-true pair.1 name ends ∙ here) in
                    rw (else', last, other', ends, never) refl
                | inr none ↦ rw (else', last, other', none) refl
              ]
        ]

pub partners_without : (one other name : ℕ) (pairs : List (ℕ × ℕ))
    → partners name (without_pair one other pairs) ≡ without_partner one other name (partners name pairs)
partners_without one other name [] =
    elim (cases_Bool (one == name)) [
      | inl first ↦ rw first refl
      | inr away ↦
          elim (cases_Bool (other == name)) [
            | inl last ↦ rw (away, last) refl
            | inr apart ↦ rw (away, apart) refl
          ]
    ]
partners_without one other name (pair ∷ pairs) =
    elim (cases_Bool (is_pair one other pair)) [
      | inl here ↦
          rw here
          (elim (or_cases ((pair.0 == one) && (pair.1 == other)) ((pair.0 == other) && (pair.1 == one)) here) [
            | inl there ↦
                let ends = and_parts (pair.0 == one) (pair.1 == other) there in
                rw (eqb-true pair.0 one ends.0, eqb-true pair.1 other ends.1)
                (sym (end_gone one other name (partners name pairs)))
            | inr back ↦
                let ends = and_parts (pair.0 == other) (pair.1 == one) back in
                rw (eqb-true pair.0 other ends.0, eqb-true pair.1 one ends.1)
                (sym (turned_end_gone one other name (partners name pairs)))
          ])
      | inr away ↦
          rw away
          (ap (with_other_end name pair) (partners_without one other name pairs)
          ∙ end_kept one other name pair (partners name pairs) away)
    ]

-- the names of a row that stay, and the row of one that goes
pub partners_untouched : (names : List ℕ) (name : ℕ) (pairs : List (ℕ × ℕ))
    → partners name (filter (λ (pair : ℕ × ℕ). not (is_touched names pair)) pairs)
    ≡ cond (is_among names name) [] (filter (λ (partner : ℕ). not (is_among names partner)) (partners name pairs))
partners_untouched names name [] =
    elim (cases_Bool (is_among names name)) [ inl gone ↦ rw gone refl | inr stays ↦ rw stays refl ]
partners_untouched names name (pair ∷ pairs) =
    elim (cases_Bool (pair.0 == name)) [
      | inl first ↦ begins first (partners_untouched names name pairs)
      | inr away ↦
          elim (cases_Bool (pair.1 == name)) [
            | inl last ↦ ends away last (partners_untouched names name pairs)
            | inr apart ↦
                elim (cases_Bool (is_touched names pair)) [
                  | inl touched ↦ rw (touched, away, apart) (partners_untouched names name pairs)
                  | inr free ↦ rw (free, away, apart) (partners_untouched names name pairs)
                ]
          ]
    ]
  where
    left : List (ℕ × ℕ) → List (ℕ × ℕ)
    left ps = filter (λ (p : ℕ × ℕ). not (is_touched names p)) ps

    kept : List ℕ → List ℕ
    kept ns = filter (λ (n : ℕ). not (is_among names n)) ns

    Same : List (ℕ × ℕ) → Type 0
    Same ps = partners name (left ps) ≡ cond (is_among names name) [] (kept (partners name ps))

    begins : (pair.0 == name) ≡ true → Same pairs → Same (pair ∷ pairs)
    begins first rest =
        let same : is_among names name ≡ is_among names pair.0 =
        ap (is_among names) (sym (eqb-true pair.0 name first)) in
        elim (cases_Bool (is_among names pair.0)) [
          | inl gone ↦ rw (first, same, gone) (rest ∙ rw (same, gone) refl)
          | inr stays ↦
              elim (cases_Bool (is_among names pair.1)) [
                | inl other ↦ rw (first, same, stays, other) (rest ∙ rw (same, stays) refl)
                | inr also ↦
                    rw (first, same, stays, also)
                    (rw first (ap (λ (ns : List ℕ). pair.1 ∷ ns) (rest ∙ rw (same, stays) refl)))
              ]
        ]

    ends : (pair.0 == name) ≡ false → (pair.1 == name) ≡ true → Same pairs → Same (pair ∷ pairs)
    ends away last rest =
        let same : is_among names name ≡ is_among names pair.1 =
        ap (is_among names) (sym (eqb-true pair.1 name last)) in
        elim (cases_Bool (is_among names pair.0)) [
          | inl other ↦
              elim (cases_Bool (is_among names pair.1)) [
                | inl gone ↦ rw (away, last, same, other, gone) (rest ∙ rw (same, gone) refl)
                | inr stays ↦ rw (away, last, same, other, stays) (rest ∙ rw (same, stays) refl)
              ]
          | inr also ↦
              elim (cases_Bool (is_among names pair.1)) [
                | inl gone ↦ rw (away, last, same, also, gone) (rest ∙ rw (same, gone) refl)
                | inr stays ↦
                    rw (away, last, same, also, stays)
                    (rw (away, last) (ap (λ (ns : List ℕ). pair.0 ∷ ns) (rest ∙ rw (same, stays) refl)))
              ]
        ]

-- names that stand in no pair touch none
pub none_touched : (names : List ℕ) (pairs : List (ℕ × ℕ))
    → ((name : ℕ) → is_among names name ≡ true → is_paired pairs name ≡ false)
    → filter (λ (pair : ℕ × ℕ). not (is_touched names pair)) pairs ≡ pairs
none_touched names [] apart = refl
none_touched names (pair ∷ pairs) apart =
    let first : is_among names pair.0 ≡ false =
    elim (cases_Bool (is_among names pair.0)) [
      | inl there ↦ absurd (both_ways _ (apart pair.0 there) (or_left _ _ (or_left _ _ (eq-eqb pair.0 pair.0 refl))))
      | inr missing ↦ missing
    ] in
    let last : is_among names pair.1 ≡ false =
    elim (cases_Bool (is_among names pair.1)) [
      | inl there ↦
          let itself : (pair.1 == pair.1) ≡ true = eq-eqb pair.1 pair.1 refl in
          absurd (both_ways _ (apart pair.1 there) (or_left _ _ (or_right (pair.0 == pair.1) _ itself)))
      | inr missing ↦ missing
    ] in
    let rest = none_touched names pairs
    (λ name there. (or_parts (is_end name pair) (is_paired pairs name) (apart name there)).1) in
    rw (first, last) (ap (λ (ps : List (ℕ × ℕ)). pair ∷ ps) rest)

pub partners_gathered : (name : ℕ) (pairs : List (ℕ × ℕ)) (names : List ℕ)
    → with_names (partners name pairs) names ≡ with_partners name pairs names
partners_gathered name [] names = refl
partners_gathered name (pair ∷ pairs) names =
    elim (cases_Bool (pair.0 == name)) [
      | inl first ↦ rw first (partners_gathered name pairs _)
      | inr other ↦
          elim (cases_Bool (pair.1 == name)) [
            | inl last ↦ rw (other, last) (partners_gathered name pairs _)
            | inr apart ↦ rw (other, apart) (partners_gathered name pairs _)
          ]
    ]

pub partners_push : (name : ℕ) (pairs : List (Name × Name)) (one other : Name)
    → partners name (pairs_of (pairs ++ (one, other) ∷ []))
    ≡ partners name (pairs_of pairs) ++ partners name ((one.0, other.0) ∷ [])
partners_push name pairs one other =
    ap (partners name) (map-append (λ (pair : Name × Name). (pair.0.0, pair.1.0)) pairs ((one, other) ∷ []))
    ∙ partners_append name (pairs_of pairs) ((one.0, other.0) ∷ [])
