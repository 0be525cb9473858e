-- How a group grows: what a member adds, that it ends, and that it is all joined names at the end.
use Rattle.std.proofs.Common.{◌≡◌, ◌≢◌, ◌<◌, ◌≤◌, ◌+◌, ◌-◌, ◌↔◌, ℕ, Bool, true, false, cond, ◌==◌, ◌&&◌, ◌||◌, ◌⊎◌, if◌then◌else◌, List, [], ◌∷◌, ◌++◌, length, get_or, AllPairs, Contains, refl, sym, ap, subst, ◌∙◌, inl, inr, arith}
use Rattle.std.proofs.lemmas.Bool.{cases_Bool, both_ways, eqb-true, eq-eqb, or_cases, or_left, or_right, and_parts, and_from, and_left, and_right, cases_eq}
use Rattle.std.proofs.lemmas.List.{length_push, get_or_append_left, get_or_default}
use Rattle.std.proofs.lemmas.List.Folds.{Any-from_list_any, list_any-from_Any, list_any-append, list_any_at}
use Rattle.std.proofs.lemmas.List.Quantifiers.{all_pairs_push}
use Rattle.fx_store_pairs.specs.Laws.{IsEquivalence}
use Rattle.fx_store_pairs.specs.Pairs.{is_among, is_end, joined}
use Rattle.fx_store_pairs.specs.Gathering.{with_name}
use Rattle.fx_store_pairs.proofs.Joining.{joined-refl, joined-sym, joined-trans, joined-pair, joined-least, contains_first, contains_later, contains_cases}

-- the other end of the pair, where this name is one of its ends
abbrev pub with_partner : ℕ → ℕ × ℕ → List ℕ → List ℕ
with_partner name pair names =
    if pair.0 == name
    then with_name pair.1 names
    else (if pair.1 == name then with_name pair.0 names else names)

abbrev pub with_partners : ℕ → List (ℕ × ℕ) → List ℕ → List ℕ
with_partners name [] names = names
with_partners name (pair ∷ pairs) names = with_partners name pairs (with_partner name pair names)

among_push : (names : List ℕ) (name other : ℕ) → is_among (names ++ name ∷ []) other ≡ (is_among names other || ((name == other) || false))
among_push names name other = list_any-append (λ (n : ℕ). n == other) names (name ∷ [])

among_kept : (names : List ℕ) (name other : ℕ) → is_among names other ≡ true → is_among (names ++ name ∷ []) other ≡ true
among_kept names name other e = among_push names name other ∙ or_left _ _ e

among_last : (names : List ℕ) (name : ℕ) → is_among (names ++ name ∷ []) name ≡ true
among_last names name = among_push names name name ∙ or_right (is_among names name) _ (or_left (name == name) false (eq-eqb name name refl))

among_cases : (names : List ℕ) (name other : ℕ) → is_among (names ++ name ∷ []) other ≡ true → (is_among names other ≡ true) ⊎ (name ≡ other)
among_cases names name other e =
    elim (or_cases (is_among names other) ((name == other) || false) (sym (among_push names name other) ∙ e)) [
      | inl before ↦ inl before
      | inr last ↦
          elim (or_cases (name == other) false last) [
            | inl same ↦ inr (eqb-true name other same)
            | inr never ↦ absurd (both_ways false refl never)
          ]
    ]

pub among_at : (names : List ℕ) (place : ℕ) → place < length names → is_among names (get_or names place 0) ≡ true
among_at names place h =
    list_any_at (λ (n : ℕ). n == get_or names place 0) names place 0 h (eq-eqb (get_or names place 0) (get_or names place 0) refl)

pub among_contains : (names : List ℕ) (name : ℕ) → is_among names name ≡ true → Contains names name
among_contains names name e =
    let found = Any-from_list_any (λ (n : ℕ). n == name) names e in
    let same : found.1 ≡ name = eqb-true found.1 name found.4 in
    subst (Contains names) same (found.0, found.2, found.3)

pub contains_among : (names : List ℕ) (name : ℕ) → Contains names name → is_among names name ≡ true
contains_among names name c =
    list_any-from_Any (λ (n : ℕ). n == name) names (c.0, name, c.1, c.2, eq-eqb name name refl)

-- a list that another grew from: it stands in front, and the new names are the partners of one
pub record Grows (from : ℕ) (pairs : List (ℕ × ℕ)) (before after : List ℕ) : Type 0 where
  pub longer : length before ≤ length after
  pub front : (place : ℕ) → place < length before → get_or after place 0 ≡ get_or before place 0
  pub kept : (other : ℕ) → is_among before other ≡ true → is_among after other ≡ true
  pub sound : (other : ℕ) → is_among after other ≡ true → (is_among before other ≡ true) ⊎ (joined pairs from other ≡ true)
  pub apart : AllPairs (λ (one other : ℕ). one ≢ other) before → AllPairs (λ (one other : ℕ). one ≢ other) after

grows_none : (from : ℕ) (pairs : List (ℕ × ℕ)) (names : List ℕ) → Grows from pairs names names
grows_none from pairs names = record {
  longer = omega arith;
  front = λ place h. refl;
  kept = λ other e. e;
  sound = λ other e. inl e;
  apart = λ h. h;
}

grows_on : (from : ℕ) (pairs : List (ℕ × ℕ)) (before between after : List ℕ) → Grows from pairs before between → Grows from pairs between after
    → Grows from pairs before after
grows_on from pairs before between after g h =
    let one : length before ≤ length between = g.longer in
    let other : length between ≤ length after = h.longer in
    record {
      longer = omega arith;
      front = λ place l. h.front place (omega arith) ∙ g.front place l;
      kept = λ name e. h.kept name (g.kept name e);
      sound = λ name e. elim (h.sound name e) [ inl there ↦ g.sound name there | inr new ↦ inr new ];
      apart = λ a. h.apart (g.apart a);
    }

grows_name : (from : ℕ) (pairs : List (ℕ × ℕ)) (name : ℕ) (names : List ℕ) → joined pairs from name ≡ true → Grows from pairs names (with_name name names)
grows_name from pairs name names linked =
    elim (cases_Bool (is_among names name)) [
      | inl there ↦ rw there (grows_none from pairs names)
      | inr missing ↦ rw missing (record {
        longer = omega (arith, length_push names name);
        front = λ place l. get_or_append_left names (name ∷ []) 0 place l;
        kept = λ other e. among_kept names name other e;
        sound = λ other e.
            elim (among_cases names name other e) [
              | inl before ↦ inl before
              | inr last ↦ inr (subst (λ n. joined pairs from n ≡ true) last linked)
            ];
        apart = λ a. all_pairs_push (λ (one other : ℕ). one ≢ other) names name a
            (λ k d l e. both_ways (is_among names name) missing (list_any_at (λ (n : ℕ). n == name) names k d l (eq-eqb (get_or names k d) name e)));
      })
    ]

name_among : (name : ℕ) (names : List ℕ) → is_among (with_name name names) name ≡ true
name_among name names =
    elim (cases_Bool (is_among names name)) [
      | inl there ↦ rw there there
      | inr missing ↦ rw missing (among_last names name)
    ]

grows_partner : (from : ℕ) (pairs : List (ℕ × ℕ)) (pair : ℕ × ℕ) (names : List ℕ) → Contains pairs pair
    → Grows from pairs names (with_partner from pair names)
grows_partner from pairs pair names c =
    let linked : joined pairs pair.0 pair.1 ≡ true = joined-pair pairs pair c in
    elim (cases_Bool (pair.0 == from)) [
      | inl here ↦
          rw here (grows_name from pairs pair.1 names (subst (λ n. joined pairs n pair.1 ≡ true) (eqb-true pair.0 from here) linked))
      | inr elsewhere ↦
          elim (cases_Bool (pair.1 == from)) [
            | inl there ↦
                rw (elsewhere, there)
                (grows_name from pairs pair.0 names
                (joined-sym pairs pair.0 from (subst (λ n. joined pairs pair.0 n ≡ true) (eqb-true pair.1 from there) linked)))
            | inr nowhere ↦ rw (elsewhere, nowhere) (grows_none from pairs names)
          ]
    ]

-- both ends of the pair are among the names
abbrev pub is_met : List ℕ → ℕ × ℕ → Bool
is_met names pair = is_among names pair.0 && is_among names pair.1

met_kept : (from : ℕ) (pairs : List (ℕ × ℕ)) (before after : List ℕ) (pair : ℕ × ℕ) → Grows from pairs before after
    → is_met before pair ≡ true → is_met after pair ≡ true
met_kept from pairs before after pair g e =
    let ends = and_parts (is_among before pair.0) (is_among before pair.1) e in
    and_from _ _ (g.kept pair.0 ends.0) (g.kept pair.1 ends.1)

partner_met : (from : ℕ) (pair : ℕ × ℕ) (names : List ℕ) → is_among names from ≡ true → is_end from pair ≡ true
    → is_met (with_partner from pair names) pair ≡ true
partner_met from pair names begun touched =
    elim (cases_Bool (pair.0 == from)) [
      | inl here ↦
          let first : is_among names pair.0 ≡ true = subst (λ n. is_among names n ≡ true) (sym (eqb-true pair.0 from here)) begun in
          rw here (and_from _ _ ((grows_name pair.1 [] pair.1 names (joined-refl [] pair.1)).kept pair.0 first) (name_among pair.1 names))
      | inr elsewhere ↦
          elim (or_cases (pair.0 == from) (pair.1 == from) touched) [
            | inl here ↦ absurd (both_ways (pair.0 == from) elsewhere here)
            | inr there ↦
                let last : is_among names pair.1 ≡ true = subst (λ n. is_among names n ≡ true) (sym (eqb-true pair.1 from there)) begun in
                rw (elsewhere, there)
                (and_from _ _ (name_among pair.0 names) ((grows_name pair.0 [] pair.0 names (joined-refl [] pair.0)).kept pair.1 last))
          ]
    ]

-- how many pairs are not met
unfoldable pub unmet : List ℕ → List (ℕ × ℕ) → ℕ
unmet names [] = 0
unmet names (pair ∷ pairs) = cond (is_met names pair) 0 1 + unmet names pairs

unmet_less : (before after : List ℕ) (pairs : List (ℕ × ℕ)) → ((pair : ℕ × ℕ) → is_met before pair ≡ true → is_met after pair ≡ true)
    → unmet after pairs ≤ unmet before pairs
unfolding unmet
unmet_less before after [] kept = omega arith
unmet_less before after (pair ∷ pairs) kept =
    let rest : unmet after pairs ≤ unmet before pairs = unmet_less before after pairs kept in
    elim (cases_Bool (is_met before pair)) [
      | inl met ↦ let also : is_met after pair ≡ true = kept pair met in rw (met, also) (omega arith)
      | inr open' ↦
          elim (cases_Bool (is_met after pair)) [
            | inl now ↦ rw (open', now) (omega arith)
            | inr still ↦ rw (open', still) (omega arith)
          ]
    ]

unmet_fewer : (before after : List ℕ) (pairs : List (ℕ × ℕ)) (pair : ℕ × ℕ) → Contains pairs pair
    → ((pair : ℕ × ℕ) → is_met before pair ≡ true → is_met after pair ≡ true)
    → is_met before pair ≡ false → is_met after pair ≡ true → unmet after pairs < unmet before pairs
unfolding unmet
unmet_fewer before after [] pair c kept open' met = absurd (omega (arith, c.1))
unmet_fewer before after (first ∷ pairs) pair c kept open' met =
    elim (contains_cases first pairs pair c) [
      | inl here ↦
          let rest : unmet after pairs ≤ unmet before pairs = unmet_less before after pairs kept in
          let was : is_met before first ≡ false = ap (is_met before) here ∙ open' in
          let now : is_met after first ≡ true = ap (is_met after) here ∙ met in
          rw (was, now) (omega arith)
      | inr later ↦
          let rest : unmet after pairs < unmet before pairs = unmet_fewer before after pairs pair later kept open' met in
          elim (cases_Bool (is_met before first)) [
            | inl was ↦ let also : is_met after first ≡ true = kept first was in rw (was, also) (omega arith)
            | inr was ↦
                elim (cases_Bool (is_met after first)) [
                  | inl now ↦ rw (was, now) (omega arith)
                  | inr still ↦ rw (was, still) (omega arith)
                ]
          ]
    ]

cost_name : (pairs : List (ℕ × ℕ)) (pair : ℕ × ℕ) (name : ℕ) (names : List ℕ) → Contains pairs pair
    → (is_among names name ≡ false → is_met names pair ≡ false) → is_met (with_name name names) pair ≡ true
    → length (with_name name names) + unmet (with_name name names) pairs ≤ length names + unmet names pairs
cost_name pairs pair name names c open' met =
    elim (cases_Bool (is_among names name)) [
      | inl there ↦ rw there (omega arith)
      | inr missing ↦
          let more : List ℕ = names ++ name ∷ [] in
          let same : with_name name names ≡ more = rw missing refl in
          let fewer : unmet more pairs < unmet names pairs =
          unmet_fewer names more pairs pair c
          (λ p e.
          let ends = and_parts (is_among names p.0) (is_among names p.1) e in
          and_from _ _ (among_kept names name p.0 ends.0) (among_kept names name p.1 ends.1))
          (open' missing) (subst (λ ns. is_met ns pair ≡ true) same met) in
          let longer : length more ≡ length names + 1 = length_push names name in
          rw same (omega arith)
    ]

-- what joins costs no more than the pair that is met by it
cost_partner : (from : ℕ) (pairs : List (ℕ × ℕ)) (pair : ℕ × ℕ) (names : List ℕ) → Contains pairs pair → is_among names from ≡ true
    → length (with_partner from pair names) + unmet (with_partner from pair names) pairs ≤ length names + unmet names pairs
cost_partner from pairs pair names c begun =
    elim (cases_Bool (pair.0 == from)) [
      | inl here ↦
          let same : with_partner from pair names ≡ with_name pair.1 names = rw here refl in
          let met : is_met (with_partner from pair names) pair ≡ true = partner_met from pair names begun (or_left _ _ here) in
          rw same
          (cost_name pairs pair pair.1 names c (λ missing. and_right (is_among names pair.0) (is_among names pair.1) missing)
          (subst (λ ns. is_met ns pair ≡ true) same met))
      | inr elsewhere ↦
          elim (cases_Bool (pair.1 == from)) [
            | inl there ↦
                let same : with_partner from pair names ≡ with_name pair.0 names = rw (elsewhere, there) refl in
                let met : is_met (with_partner from pair names) pair ≡ true =
                partner_met from pair names begun (or_right (pair.0 == from) (pair.1 == from) there) in
                rw same
                (cost_name pairs pair pair.0 names c (λ missing. and_left (is_among names pair.0) (is_among names pair.1) missing)
                (subst (λ ns. is_met ns pair ≡ true) same met))
            | inr nowhere ↦ rw (elsewhere, nowhere) (omega arith)
          ]
    ]

grows_partners : (from : ℕ) (pairs some : List (ℕ × ℕ)) (names : List ℕ) → ((pair : ℕ × ℕ) → Contains some pair → Contains pairs pair)
    → Grows from pairs names (with_partners from some names)
grows_partners from pairs [] names within = grows_none from pairs names
grows_partners from pairs (pair ∷ some) names within =
    let next : List ℕ = with_partner from pair names in
    grows_on from pairs names next (with_partners from some next)
    (grows_partner from pairs pair names (within pair (contains_first pair some)))
    (grows_partners from pairs some next (λ p c. within p (contains_later pair some p c)))

partners_met : (from : ℕ) (pairs some : List (ℕ × ℕ)) (names : List ℕ) → ((pair : ℕ × ℕ) → Contains some pair → Contains pairs pair)
    → is_among names from ≡ true → (pair : ℕ × ℕ) → Contains some pair → is_end from pair ≡ true
    → is_met (with_partners from some names) pair ≡ true
partners_met from pairs [] names within begun pair c touched = absurd (omega (arith, c.1))
partners_met from pairs (first ∷ some) names within begun pair c touched =
    let next : List ℕ = with_partner from first names in
    let rest : (p : ℕ × ℕ) → Contains some p → Contains pairs p = λ p d. within p (contains_later first some p d) in
    elim (contains_cases first some pair c) [
      | inl here ↦
          subst (λ (p : ℕ × ℕ). is_met (with_partners from some next) p ≡ true) here
          (met_kept from pairs next (with_partners from some next) first (grows_partners from pairs some next rest)
          (partner_met from first names begun (ap (is_end from) here ∙ touched)))
      | inr later ↦
          partners_met from pairs some next rest
          ((grows_partner from pairs first names (within first (contains_first first some))).kept from begun)
          pair later touched
    ]

cost_partners : (from : ℕ) (pairs some : List (ℕ × ℕ)) (names : List ℕ) → ((pair : ℕ × ℕ) → Contains some pair → Contains pairs pair)
    → is_among names from ≡ true
    → length (with_partners from some names) + unmet (with_partners from some names) pairs ≤ length names + unmet names pairs
cost_partners from pairs [] names within begun = omega arith
cost_partners from pairs (first ∷ some) names within begun =
    let next : List ℕ = with_partner from first names in
    let here : Contains pairs first = within first (contains_first first some) in
    let one : length next + unmet next pairs ≤ length names + unmet names pairs = cost_partner from pairs first names here begun in
    let rest : length (with_partners from some next) + unmet (with_partners from some next) pairs ≤ length next + unmet next pairs =
    cost_partners from pairs some next (λ p c. within p (contains_later first some p c))
    ((grows_partner from pairs first names here).kept from begun) in
    omega arith

-- the names that are found so far, of which those before `done` have all their partners among them
pub record Gathers (pairs : List (ℕ × ℕ)) (name : ℕ) (names : List ℕ) (done : ℕ) : Type 0 where
  pub begun : is_among names name ≡ true
  pub sound : (other : ℕ) → is_among names other ≡ true → joined pairs name other ≡ true
  pub apart : AllPairs (λ (one other : ℕ). one ≢ other) names
  pub behind : done ≤ length names
  pub spread : (place : ℕ) → place < done → (pair : ℕ × ℕ) → Contains pairs pair → is_end (get_or names place 0) pair ≡ true → is_met names pair ≡ true

pub gathers_start : (pairs : List (ℕ × ℕ)) (name : ℕ) → Gathers pairs name (name ∷ []) 0
gathers_start pairs name = record {
  begun = among_last [] name;
  sound = λ other e.
      elim (among_cases [] name other e) [
        | inl never ↦ absurd (both_ways false refl never)
        | inr same ↦ subst (λ n. joined pairs name n ≡ true) same (joined-refl pairs name)
      ];
  apart = λ i j d h l. absurd (omega arith);
  behind = omega arith;
  spread = λ place h. absurd (omega arith);
}

pub gathers_more : (pairs : List (ℕ × ℕ)) (name : ℕ) (names : List ℕ) (done next : ℕ) → Gathers pairs name names done → done < length names
    → next ≡ get_or names done 0 → Gathers pairs name (with_partners next pairs names) (done + 1)
gathers_more pairs name names done next g h at =
    let after : List ℕ = with_partners next pairs names in
    let grown : Grows next pairs names after = grows_partners next pairs pairs names (λ p c. c) in
    let here : is_among names next ≡ true = subst (λ n. is_among names n ≡ true) (sym at) (among_at names done h) in
    let longer : length names ≤ length after = grown.longer in
    record {
      begun = grown.kept name g.begun;
      sound = λ other e.
          elim (grown.sound other e) [
            | inl before ↦ g.sound other before
            | inr new ↦ joined-trans pairs name next other (g.sound next here) new
          ];
      apart = grown.apart g.apart;
      behind = omega arith;
      spread = λ place l pair c touched.
          elim (cases_eq place done) [
            | inl last ↦
                let same : get_or after place 0 ≡ next = ap (λ n. get_or after n 0) last ∙ grown.front done h ∙ sym at in
                partners_met next pairs pairs names (λ p d. d) here pair c (subst (λ n. is_end n pair ≡ true) same touched)
            | inr other ↦
                let before : place < done = omega arith in
                met_kept next pairs names after pair grown
                (g.spread place before pair c (subst (λ n. is_end n pair ≡ true) (grown.front place (omega arith)) touched))
          ];
    }

pub gathers_less : (pairs : List (ℕ × ℕ)) (name : ℕ) (names : List ℕ) (done next : ℕ) → Gathers pairs name names done → done < length names
    → next ≡ get_or names done 0
    → unmet (with_partners next pairs names) pairs + (length (with_partners next pairs names) - (done + 1))
    < unmet names pairs + (length names - done)
gathers_less pairs name names done next g h at =
    let here : is_among names next ≡ true = subst (λ n. is_among names n ≡ true) (sym at) (among_at names done h) in
    let grown : Grows next pairs names (with_partners next pairs names) = grows_partners next pairs pairs names (λ p c. c) in
    let longer : length names ≤ length (with_partners next pairs names) = grown.longer in
    let cost = cost_partners next pairs pairs names (λ p c. c) here in
    omega (arith, cost)

pub gathers_all : (pairs : List (ℕ × ℕ)) (name : ℕ) (names : List ℕ) (done : ℕ) → Gathers pairs name names done → length names ≤ done
    → (other : ℕ) → Contains names other ↔ (joined pairs name other ≡ true)
gathers_all pairs name names done g over other = (
  λ c. g.sound other (contains_among names other c),
  λ e. among_contains names other ((joined-least R pairs same each name other e).0 g.begun),
)
  where
    R : ℕ → ℕ → Type 0
    R one other = (is_among names one ≡ true → is_among names other ≡ true) × (is_among names other ≡ true → is_among names one ≡ true)

    same : IsEquivalence R
    same = record {
      itself = λ n. (λ e. e, λ e. e);
      turned = λ a b r. (r.1, r.0);
      onwards = λ a b c r s. (λ e. s.0 (r.0 e), λ e. r.1 (s.1 e));
    }

    met : (pair : ℕ × ℕ) → Contains pairs pair → (end' : ℕ) → is_end end' pair ≡ true → is_among names end' ≡ true → is_met names pair ≡ true
    met pair c end' touched e =
        let there = among_contains names end' e in
        let found : get_or names there.0 0 ≡ end' = get_or_default names there.0 0 end' there.1 ∙ there.2 in
        let before : there.0 < done = omega (arith, there.1) in
        g.spread there.0 before pair c (subst (λ n. is_end n pair ≡ true) (sym found) touched)

    each : (pair : ℕ × ℕ) → Contains pairs pair → R pair.0 pair.1
    each pair c = (
      λ e. (and_parts (is_among names pair.0) (is_among names pair.1)
          (met pair c pair.0 (or_left _ _ (eq-eqb pair.0 pair.0 refl)) e)).1,
      λ e. (and_parts (is_among names pair.0) (is_among names pair.1)
          (met pair c pair.1 (or_right (pair.0 == pair.1) (pair.1 == pair.1) (eq-eqb pair.1 pair.1 refl)) e)).0,
    )
