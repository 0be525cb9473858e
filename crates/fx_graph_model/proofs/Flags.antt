-- Flags after one is set or cleared, and how many are set.
use Rattle.std.proofs.Common.{◌≡◌, ℕ, zero, suc, ◌+◌, ◌<◌, ◌≤◌, Bool, true, false, cond, not, List, [], ◌∷◌, length, map, get_or, set, arith, refl, sym, ◌∙◌, ap, inl, inr}
use Rattle.std.specs.List.{range_with_len}
use Rattle.std.proofs.lemmas.Bool.{cases_lt, both_ways}
use Rattle.std.proofs.lemmas.List.{get_or_past, get_or-set_same, get_or-set_other, set-get_or}
use Rattle.std.proofs.lemmas.List.FromFn.{fill_by_all, get_or-map-range_with_len, length-map-range_with_len}
use Rattle.fx_graph_model.specs.Unread.{marked, tally, unmarked}

pub marked-set_same : (flags : List Bool) (name : ℕ) (flag : Bool) → name < length flags → marked (set flags name flag) name ≡ flag
marked-set_same flags name flag h = get_or-set_same flags name flag false h

pub marked-set_other : (flags : List Bool) (name other : ℕ) (flag : Bool) → (other ≡ name → ⊥)
    → marked (set flags name flag) other ≡ marked flags other
marked-set_other flags name other flag differs = get_or-set_other flags name other flag false differs

-- a flag that is on has a name that was declared
pub marked_within : (flags : List Bool) (name : ℕ) → marked flags name ≡ true → name < length flags
marked_within flags name on =
    elim (cases_lt name (length flags)) [
      | inl within ↦ within
      | inr past ↦ absurd (both_ways (marked flags name) (get_or_past flags name false past) on)
    ]

-- a name that is marked twice
pub set_marked : (flags : List Bool) (name : ℕ) → marked flags name ≡ true → set flags name true ≡ flags
set_marked flags name on = ap (λ (b : Bool). set flags name b) (sym on) ∙ set-get_or flags name false

-- the flags that a test gives
pub flags_by : (test : ℕ → Bool) (flags : List Bool) (n : ℕ) → length flags ≡ n → ((name : ℕ) → name < n → marked flags name ≡ test name)
    → flags ≡ map test (range_with_len 0 n)
flags_by test flags n long each = fill_by_all test flags n false long each

pub marked-by : (test : ℕ → Bool) (n name : ℕ) → name < n → marked (map test (range_with_len 0 n)) name ≡ test name
marked-by test n name h = get_or-map-range_with_len test 0 n name name false h (omega arith)

pub length-by : (test : ℕ → Bool) (n : ℕ) → length (map test (range_with_len 0 n)) ≡ n
length-by test n = length-map-range_with_len test 0 n

-- two tests that imply each other
pub same_test : (a b : Bool) → (a ≡ true → b ≡ true) → (b ≡ true → a ≡ true) → a ≡ b
same_test true b first second = sym (first refl)
same_test false true first second = second refl
same_test false false first second = refl

-- one element is written
pub tally_one : {X : Type 0} (test : X → Bool) (xs : List X) (i : ℕ) (x d : X) → i < length xs
    → tally test (set xs i x) + cond (test (get_or xs i d)) 1 0 ≡ tally test xs + cond (test x) 1 0
tally_one test [] i x d h = absurd (omega arith)
tally_one test (y ∷ ys) zero x d h = omega arith
tally_one test (y ∷ ys) (suc i) x d h =
    let rest : tally test (set ys i x) + cond (test (get_or ys i d)) 1 0 ≡ tally test ys + cond (test x) 1 0 =
    tally_one test ys i x d (omega arith) in
    omega arith

pub unmarked-mark : (flags : List Bool) (name : ℕ) → name < length flags → marked flags name ≡ false
    → unmarked (set flags name true) + 1 ≡ unmarked flags
unfolding unmarked
unmarked-mark flags name h off =
    let one : tally not (set flags name true) + cond (not (marked flags name)) 1 0 ≡ tally not flags + 0 = tally_one not flags name true false h in
    let same : cond {A = ℕ} (not (marked flags name)) 1 0 ≡ 1 = ap (λ (b : Bool). cond {A = ℕ} (not b) 1 0) off in
    omega arith

pub unmarked-clear : (flags : List Bool) (name : ℕ) → marked flags name ≡ true
    → unmarked (set flags name false) ≡ unmarked flags + 1
unfolding unmarked
unmarked-clear flags name on =
    let one : tally not (set flags name false) + cond (not (marked flags name)) 1 0 ≡ tally not flags + 1 =
    tally_one not flags name false false (marked_within flags name on) in
    let same : cond {A = ℕ} (not (marked flags name)) 1 0 ≡ 0 = ap (λ (b : Bool). cond {A = ℕ} (not b) 1 0) on in
    omega arith

-- a name that isn't marked is counted
pub unmarked_some : (flags : List Bool) (name : ℕ) → name < length flags → marked flags name ≡ false → 0 < unmarked flags
unmarked_some flags name h off =
    let one : unmarked (set flags name true) + 1 ≡ unmarked flags = unmarked-mark flags name h off in
    omega arith

pub unmarked_most : (flags : List Bool) → unmarked flags ≤ length flags
unfolding unmarked
unmarked_most [] = omega arith
unmarked_most (true ∷ flags) = let rest : tally not flags ≤ length flags = unmarked_most flags in omega arith
unmarked_most (false ∷ flags) = let rest : tally not flags ≤ length flags = unmarked_most flags in omega arith
