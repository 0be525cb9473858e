-- What is read of marks, and what a search among them finds.
use Rattle.std.proofs.Common.{refl, sym, subst, ap, ◌∙◌, ◌≡◌, ◌==◌, ◌&&◌, ◌||◌, ◌++◌, ℕ, zero, suc, ◌+◌, ◌-◌, ◌<◌, ◌≤◌, Bool, true, false, true≢false, List, [], Option, None, Some, length, length-take, map, replicate, take, drop, get_or-take, get_or-drop, slice_index, slice_set, inl, inr, arith}
use Rattle.std.proofs.lemmas.Bool.{cases_lt, eqb-true, eqb-false}
use Rattle.std.proofs.lemmas.List.{get_or-map, get_or-set_same, get_or-set_other, length-drop, length-map, map-set}
use Rattle.std.proofs.Math.ListN.{get_or-eq_default}
use Rattle.memchr.specs.Find.{IsFirstByte, IsLastByte, is_byte}
use Rattle.fx_layout_sweeps.specs.Marks.{IsFirstMark, IsLastMark, flag_in, is_set}

not_true : (b : Bool) → (b ≡ true → ⊥) → b ≡ false
not_true true h = absurd (h refl)
not_true false h = refl

pub flag_read : (bytes : List ℕ) (p : ℕ) → p < length bytes → flag_in (map is_set bytes) p ≡ is_set (slice_index bytes p)
flag_read bytes p within = get_or-map is_set bytes p 0 false within

pub flag_missing : (bytes : List ℕ) (p : ℕ) → length bytes ≤ p → flag_in (map is_set bytes) p ≡ false
flag_missing bytes p past =
    get_or-eq_default (map is_set bytes) false (subst (λ n. n ≤ p) (sym (length-map bytes is_set)) past)

-- a place behind another one, in what is left there
behind : (bytes : List ℕ) (from q : ℕ) → from ≤ q → slice_index (drop from bytes) (q - from) ≡ slice_index bytes q
behind bytes from q late =
    let at : from + (q - from) ≡ q = omega (arith, late) in
    get_or-drop from bytes (q - from) 0 ∙ ap (λ n. slice_index bytes n) at

unmarked_from : (bytes : List ℕ) (from q : ℕ) → from ≤ q → q < length bytes
    → (is_byte 1 (slice_index (drop from bytes) (q - from)) ≡ true → ⊥) → flag_in (map is_set bytes) q ≡ false
unmarked_from bytes from q late within none =
    flag_read bytes q within
    ∙ not_true (is_set (slice_index bytes q)) (λ hit. none (ap (is_byte 1) (behind bytes from q late) ∙ hit))

pub first_found : (bytes : List ℕ) (from n : ℕ) → from ≤ length bytes
    → IsFirstByte (is_byte 1) (drop from bytes) (Some n) → IsFirstMark (map is_set bytes) from (Some (from + n))
first_found bytes from n fits found =
    let high : n < length (drop from bytes) = found.0.high in
    let within : from + n < length bytes = omega (arith, high, length-drop from bytes, fits) in
    let back : from + n - from ≡ n = omega arith in (
      omega arith,
      omega (arith, within, length-map bytes is_set),
      flag_read bytes (from + n) within
          ∙ (ap is_set (sym (behind bytes from (from + n) (omega arith)))
          ∙ (ap (λ k. is_set (slice_index (drop from bytes) k)) back ∙ found.1)),
      λ q late before. unmarked_from bytes from q late (omega (arith, before, within))
          (found.0.before (q - from) (omega arith) (omega (arith, late, before))),
    )

pub first_missed : (bytes : List ℕ) (from : ℕ) → from ≤ length bytes → IsFirstByte (is_byte 1) (drop from bytes) None
    → IsFirstMark (map is_set bytes) from None
first_missed bytes from fits none q late within =
    let few : q < length bytes = omega (arith, within, length-map bytes is_set) in
    unmarked_from bytes from q late few
    (none (q - from) (omega arith) (omega (arith, late, few, length-drop from bytes)))

pub first_past : (bytes : List ℕ) (from : ℕ) → length bytes ≤ from → IsFirstMark (map is_set bytes) from None
first_past bytes from past q late within = absurd (omega (arith, late, within, past, length-map bytes is_set))

-- what isn't found among the first bytes isn't marked
unmarked_before : (bytes : List ℕ) (end q : ℕ) → q < end → q < length bytes
    → (is_byte 1 (slice_index (take end bytes) q) ≡ true → ⊥) → flag_in (map is_set bytes) q ≡ false
unmarked_before bytes end q early within none =
    flag_read bytes q within
    ∙ not_true (is_set (slice_index bytes q)) (λ hit. none (ap (is_byte 1) (get_or-take end bytes q 0 early) ∙ hit))

pub last_found : (bytes : List ℕ) (to : ℕ) (found : Option ℕ) → IsLastByte (is_byte 1) (take to bytes) found
    → IsLastMark (map is_set bytes) to found
last_found bytes to None none =
    λ q late before. elim (cases_lt q (length bytes)) [
      | inl within ↦ (
          let long = length-take to bytes in
          let near : q < length (take to bytes) = grind (arith, before, within, long) in
          unmarked_before bytes to q before within (none q (omega arith) near))
      | inr past ↦ flag_missing bytes q (omega (arith, past))
    ]
last_found bytes to (Some n) found =
    let long = length-take to bytes in
    let high : n < length (take to bytes) = found.0.high in
    let early : n < to = grind (arith, high, long) in
    let within : n < length bytes = grind (arith, high, long) in (
      early,
      flag_read bytes n within ∙ (ap is_set (sym (get_or-take to bytes n 0 early)) ∙ found.1),
      λ q late before. elim (cases_lt q (length bytes)) [
        | inl inside ↦ (
            let near : q < length (take to bytes) = grind (arith, before, inside, long) in
            unmarked_before bytes to q before inside (found.0.after q (omega (arith, late)) near))
        | inr past ↦ flag_missing bytes q (omega (arith, past))
      ],
    )

-- of new marks none is set
none_among : (k q : ℕ) → flag_in (map is_set (replicate k 0)) q ≡ false
none_among zero q = refl
none_among (suc k) zero = refl
none_among (suc k) (suc q) = none_among k q

pub none_marked : (n m p : ℕ) → flag_in (map is_set (take n [] ++ replicate m 0)) p ≡ false
none_marked zero m p = none_among m p
none_marked (suc n) m p = none_among m p

-- a byte is set
pub set_marks : (bytes : List ℕ) (place p : ℕ) (test : Bool) → test ≡ true → place < length bytes
    → flag_in (map is_set (slice_set bytes place 1)) p ≡ (flag_in (map is_set bytes) p || ((place == p) && test))
set_marks bytes place p test passes within =
    ap (λ (l : List Bool). flag_in l p) (map-set is_set bytes place 1)
    ∙ (by (place == p) refl ∙ ap (λ b. flag_in (map is_set bytes) p || ((place == p) && b)) (sym passes))
  where
    or_true : (b : Bool) → true ≡ (b || true)
    or_true true = refl
    or_true false = refl

    or_none : (b : Bool) → b ≡ (b || false)
    or_none true = refl
    or_none false = refl

    by : (b : Bool) → (place == p) ≡ b
        → flag_in (slice_set (map is_set bytes) place true) p ≡ (flag_in (map is_set bytes) p || ((place == p) && true))
    by true same =
        subst (λ m. flag_in (slice_set (map is_set bytes) place true) m ≡ true) (eqb-true place p same)
        (get_or-set_same (map is_set bytes) place true false (omega (arith, within, length-map bytes is_set)))
        ∙ (or_true (flag_in (map is_set bytes) p) ∙ ap (λ b. flag_in (map is_set bytes) p || (b && true)) (sym same))
    by false differ =
        get_or-set_other (map is_set bytes) place p true false (λ same. eqb-false place p differ (sym same))
        ∙ (or_none (flag_in (map is_set bytes) p) ∙ ap (λ b. flag_in (map is_set bytes) p || (b && true)) (sym differ))

-- what is marked is there
pub marked_within : (flags : List Bool) (p : ℕ) → flag_in flags p ≡ true → p < length flags
marked_within flags p is_marked = elim (cases_lt p (length flags)) [
  | inl within ↦ within
  | inr past ↦ absurd (true≢false (sym is_marked ∙ get_or-eq_default flags false past))
]

pub found_here : (flags : List Bool) (from : ℕ) → flag_in flags from ≡ true → IsFirstMark flags from (Some from)
found_here flags from is_marked =
    (omega arith, marked_within flags from is_marked, is_marked, λ q late early. absurd (omega (arith, late, early)))

pub found_before : (flags : List Bool) (to : ℕ) → 0 < to → flag_in flags (to - 1) ≡ true → IsLastMark flags to (Some (to - 1))
found_before flags to some is_marked =
    (omega (arith, some), is_marked, λ q late early. absurd (omega (arith, late, early, some)))
