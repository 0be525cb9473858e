-- Ranks, made small again, and ranks after an entry is written.
use Rattle.std.proofs.Common.{◌≡◌, ℕ, ◌+◌, ◌<◌, ◌≤◌, ltb, true, false, cond, List, [], ◌∷◌, ◌++◌, length, set, arith, refl, ◌∙◌, ap, subst, inl, inr, ◌⊎◌}
use Rattle.std.specs.List.{Contains, range_with_len}
use Rattle.std.proofs.lemmas.Bool.{cases_Bool, cases_lt, cases_eq, ltb-true, lt-ltb, le-ltb, cond-true, cond-false}
use Rattle.std.proofs.lemmas.List.FromFn.{length-range_with_len}
use Rattle.std.proofs.lemmas.List.{get_or-set_same, get_or-set_other, length-set, length_push, get_or_push, get_or_append_left}
use Rattle.fx_graph_model.specs.declared.entries.Entry.{Entry}
use Rattle.fx_graph_model.specs.Unread.{tally}
use Rattle.fx_graph_model.specs.Uses.{nothing, entry_of, operands_in, uses, leads, Ranked}
use Rattle.fx_graph_model.proofs.Members.{in_range, none_in_nil, tally_less, tally_most}
use Rattle.fx_graph_model.proofs.Walks.{leads-refl, leads-first, user_within}

-- how many names have a lower rank
place : (ℕ → ℕ) → ℕ → ℕ → ℕ
place rank n name = tally (λ (o : ℕ). ltb (rank o) (rank name)) (range_with_len 0 n)

place-falls : (rank : ℕ → ℕ) (n from to : ℕ) → to < n → rank to < rank from → place rank n to < place rank n from
unfolding place
place-falls rank n from to within below =
    tally_less (λ (o : ℕ). ltb (rank o) (rank to)) (λ (o : ℕ). ltb (rank o) (rank from)) (range_with_len 0 n) to
    (λ o _ e. lt-ltb (rank o) (rank from) (omega (arith, ltb-true (rank o) (rank to) e)))
    (in_range n to within) (le-ltb (rank to) (rank to) (omega arith)) (lt-ltb (rank to) (rank from) below)

place-small : (rank : ℕ → ℕ) (n name : ℕ) → name < n → place rank n name < n
unfolding place
place-small rank n name within =
    let less : place rank n name < tally (λ (o : ℕ). true) (range_with_len 0 n) =
    tally_less (λ (o : ℕ). ltb (rank o) (rank name)) (λ (o : ℕ). true) (range_with_len 0 n) name
    (λ o _ _. refl) (in_range n name within) (le-ltb (rank name) (rank name) (omega arith)) refl in
    let most : tally (λ (o : ℕ). true) (range_with_len 0 n) ≤ length (range_with_len 0 n) = tally_most (λ (o : ℕ). true) (range_with_len 0 n) in
    let long : length (range_with_len 0 n) ≡ n = length-range_with_len 0 n in
    omega arith

-- ranks that fall can be made small
pub ranked_from : (es : List Entry) (rank : ℕ → ℕ)
    → ((from to : ℕ) → Contains (uses es from) to → rank to < rank from)
    → ((from to : ℕ) → Contains (uses es from) to → to < length es)
    → (small : ℕ → ℕ) × Ranked es small
ranked_from es rank falls within = (
  place rank (length es),
  record {
    falls = λ from to c. place-falls rank (length es) from to (within from to c) (falls from to c);
    within = within;
    small = λ name h. place-small rank (length es) name h;
  },
)

-- no new uses
pub ranked_fewer : (es fs : List Entry) (rank : ℕ → ℕ) → Ranked es rank → length fs ≡ length es
    → ((user name : ℕ) → Contains (uses fs user) name → Contains (uses es user) name) → Ranked fs rank
ranked_fewer es fs rank ranked long fewer = record {
  falls = λ from to c. ranked.falls from to (fewer from to c);
  within = λ from to c. let old : to < length es = ranked.within from to (fewer from to c) in omega arith;
  small = λ name h. let old : rank name < length es = ranked.small name (omega arith) in omega arith;
}

pub entry-set_same : (es : List Entry) (name : ℕ) (entry : Entry) → name < length es → entry_of (set es name entry) name ≡ entry
entry-set_same es name entry h = get_or-set_same es name entry nothing h

pub entry-set_other : (es : List Entry) (name other : ℕ) (entry : Entry) → (other ≡ name → ⊥)
    → entry_of (set es name entry) other ≡ entry_of es other
entry-set_other es name other entry differs = get_or-set_other es name other entry nothing differs

pub uses-set_same : (es : List Entry) (name : ℕ) (entry : Entry) → name < length es
    → uses (set es name entry) name ≡ operands_in entry.definition
uses-set_same es name entry h = ap (λ (e : Entry). operands_in e.definition) (entry-set_same es name entry h)

pub uses-set_other : (es : List Entry) (name other : ℕ) (entry : Entry) → (other ≡ name → ⊥)
    → uses (set es name entry) other ≡ uses es other
uses-set_other es name other entry differs = ap (λ (e : Entry). operands_in e.definition) (entry-set_other es name other entry differs)

-- a use after a write is one of the new operands, or an old use of another name
pub uses-set_cases : (es : List Entry) (name : ℕ) (entry : Entry) (user used : ℕ) → Contains (uses (set es name entry) user) used
    → ((user ≡ name) × Contains (operands_in entry.definition) used) ⊎ ((user ≡ name → ⊥) × Contains (uses es user) used)
uses-set_cases es name entry user used c =
    elim (cases_eq user name) [
      | inl here ↦
          let within : user < length (set es name entry) = user_within (set es name entry) user used c in
          let long : length (set es name entry) ≡ length es = length-set es name entry in
          let P : List ℕ → Type 0 = λ xs. Contains xs used in
          let Q : ℕ → Type 0 = λ n. Contains (uses (set es name entry) n) used in
          inl (here, subst P (uses-set_same es name entry (omega arith)) (subst Q here c))
      | inr differs ↦
          let P : List ℕ → Type 0 = λ xs. Contains xs used in
          inr (differs, subst P (uses-set_other es name user entry differs) c)
    ]

raised : List Entry → ℕ → (ℕ → ℕ) → ℕ → ℕ
raised es name rank other = cond (leads es other name) (length es + rank other) (rank other)

raised-leads : (es : List Entry) (name : ℕ) (rank : ℕ → ℕ) (other : ℕ) → leads es other name ≡ true
    → raised es name rank other ≡ length es + rank other
unfolding raised
raised-leads es name rank other e = cond-true _ _ _ e

raised-free : (es : List Entry) (name : ℕ) (rank : ℕ → ℕ) (other : ℕ) → leads es other name ≡ false
    → raised es name rank other ≡ rank other
unfolding raised
raised-free es name rank other e = cond-false _ _ _ e

raised-above : (es : List Entry) (name : ℕ) (rank : ℕ → ℕ) (other : ℕ) → rank other ≤ raised es name rank other
raised-above es name rank other =
    elim (cases_Bool (leads es other name)) [
      | inl holds ↦ let e : raised es name rank other ≡ length es + rank other = raised-leads es name rank other holds in omega arith
      | inr fails ↦ let e : raised es name rank other ≡ rank other = raised-free es name rank other fails in omega arith
    ]

-- an entry whose operands don't lead back to it
pub ranked_bound : (es : List Entry) (rank : ℕ → ℕ) → Ranked es rank → (name : ℕ) (entry : Entry)
    → ((o : ℕ) → Contains (operands_in entry.definition) o → (o < length es) × (leads es o name ≡ false))
    → (after : ℕ → ℕ) × Ranked (set es name entry) after
ranked_bound es rank ranked name entry free =
    ranked_from (set es name entry) (raised es name rank)
    (λ from to c. falls from to (uses-set_cases es name entry from to c))
    (λ from to c. within from to (uses-set_cases es name entry from to c))
  where
    falls : (from to : ℕ)
        → ((from ≡ name) × Contains (operands_in entry.definition) to) ⊎ ((from ≡ name → ⊥) × Contains (uses es from) to)
        → raised es name rank to < raised es name rank from
    falls from to (inl new) =
        let ok = free to new.1 in
        let low : raised es name rank to ≡ rank to = raised-free es name rank to ok.1 in
        let small : rank to < length es = ranked.small to ok.0 in
        let back : leads es from name ≡ true = ap (λ n. leads es n name) new.0 ∙ leads-refl es name in
        let high : raised es name rank from ≡ length es + rank from = raised-leads es name rank from back in
        omega arith
    falls from to (inr old) =
        let step : rank to < rank from = ranked.falls from to old.1 in
        elim (cases_Bool (leads es to name)) [
          | inl holds ↦
              let low : raised es name rank to ≡ length es + rank to = raised-leads es name rank to holds in
              let high : raised es name rank from ≡ length es + rank from =
              raised-leads es name rank from (leads-first es rank ranked from to name old.1 holds) in
              omega arith
          | inr fails ↦
              let low : raised es name rank to ≡ rank to = raised-free es name rank to fails in
              let high : rank from ≤ raised es name rank from = raised-above es name rank from in
              omega arith
        ]

    within : (from to : ℕ)
        → ((from ≡ name) × Contains (operands_in entry.definition) to) ⊎ ((from ≡ name → ⊥) × Contains (uses es from) to)
        → to < length (set es name entry)
    within from to (inl new) = rw (length-set es name entry) (free to new.1).0
    within from to (inr old) = rw (length-set es name entry) (ranked.within from to old.1)

-- an entry without operands, in the place of another
pub ranked_plain : (es : List Entry) (rank : ℕ → ℕ) → Ranked es rank → (name : ℕ) (entry : Entry)
    → operands_in entry.definition ≡ [] → Ranked (set es name entry) rank
ranked_plain es rank ranked name entry none =
    ranked_fewer es (set es name entry) rank ranked (length-set es name entry)
    (λ user used c. old user used (uses-set_cases es name entry user used c))
  where
    old : (user used : ℕ)
        → ((user ≡ name) × Contains (operands_in entry.definition) used) ⊎ ((user ≡ name → ⊥) × Contains (uses es user) used)
        → Contains (uses es user) used
    old user used (inl new) = let P : List ℕ → Type 0 = λ xs. Contains xs used in absurd (none_in_nil used (subst P none new.1))
    old user used (inr kept) = kept.1

-- an entry without operands, behind all others
pub uses-declared : (es : List Entry) (entry : Entry) → operands_in entry.definition ≡ [] → (user used : ℕ)
    → Contains (uses (es ++ entry ∷ []) user) used → Contains (uses es user) used
uses-declared es entry none user used c =
    let P : List ℕ → Type 0 = λ xs. Contains xs used in
    elim (cases_lt user (length es)) [
      | inl within ↦ subst P (ap (λ (e : Entry). operands_in e.definition) (get_or_append_left es (entry ∷ []) nothing user within)) c
      | inr past ↦
          let inside : user < length (es ++ entry ∷ []) = user_within (es ++ entry ∷ []) user used c in
          let long : length (es ++ entry ∷ []) ≡ length es + 1 = length_push es entry in
          let here : length es ≡ user = omega arith in
          absurd (none_in_nil used (subst P (ap (λ (e : Entry). operands_in e.definition) (get_or_push es entry nothing user here) ∙ none) c))
    ]

pub ranked_declared : (es : List Entry) (rank : ℕ → ℕ) → Ranked es rank → (entry : Entry)
    → operands_in entry.definition ≡ [] → (after : ℕ → ℕ) × Ranked (es ++ entry ∷ []) after
ranked_declared es rank ranked entry none =
    ranked_from (es ++ entry ∷ []) rank
    (λ from to c. ranked.falls from to (uses-declared es entry none from to c))
    (λ from to c.
    let old : to < length es = ranked.within from to (uses-declared es entry none from to c) in
    let long : length (es ++ entry ∷ []) ≡ length es + 1 = length_push es entry in
    omega arith)

pub ranked_empty : (rank : ℕ → ℕ) → Ranked [] rank
ranked_empty rank = record {
  falls = λ from to c. absurd (none_in_nil to c);
  within = λ from to c. absurd (none_in_nil to c);
  small = λ name h. absurd (omega arith);
}
