-- Flags of names that stand in a row.
use Rattle.std.proofs.Common.{◌≡◌, ℕ, zero, suc, ◌+◌, ◌≤◌, ◌<◌, Bool, true, false, ◌||◌, List, [], ◌∷◌, length, get_or, take, drop, refl, sym, ◌∙◌, ap, arith, inl, inr}
use Rattle.fx_graph_model.specs.Unread.{marked}
use Rattle.std.specs.List.{list_any, range_with_len}
use Rattle.std.proofs.lemmas.Bool.{cases_lt}
use Rattle.std.proofs.lemmas.List.{drop_all, drop_more, get_or_past}

none_set : (count : ℕ) → list_any (λ (flag : Bool). flag) (take count []) ≡ false
none_set zero = refl
none_set (suc count) = refl

-- the flags from a place on, and one more of them
any_more : (flags : List Bool) (count from : ℕ)
    → list_any (λ (flag : Bool). flag) (take (suc count) (drop from flags))
    ≡ (marked flags from || list_any (λ (flag : Bool). flag) (take count (drop (from + 1) flags)))
any_more flags count from =
    elim (cases_lt from (length flags)) [
      | inl within ↦ ap (λ (l : List Bool). list_any (λ (flag : Bool). flag) (take (suc count) l))
          (drop_more flags from false within)
      | inr past ↦
          rw (
            drop_all from flags past,
            drop_all (from + 1) flags
                (omega (arith, past)),
            get_or_past flags from false past,
          )
          (sym (none_set count))
    ]

pub any_in_row : (flags : List Bool) (count from : ℕ)
    → list_any (λ (flag : Bool). flag) (take count (drop from flags))
    ≡ list_any (marked flags) (range_with_len from count)
any_in_row flags zero from = refl
any_in_row flags (suc count) from = any_more flags count from
    ∙ ap (λ (b : Bool). marked flags from || b) (any_in_row flags count (from + 1))

pub none_past : (flags : List Bool) (count from : ℕ) → length flags ≤ from
    → list_any (marked flags) (range_with_len from count) ≡ false
none_past flags count from past = sym (any_in_row flags count from) ∙ rw (drop_all from flags past) (none_set count)

or_one : (any flag rest : Bool) → (any || (flag || rest)) ≡ ((any || flag) || rest)
or_one true flag rest = refl
or_one false flag rest = refl

or_four : (any a b c d rest : Bool) → (any || (a || (b || (c || (d || rest))))) ≡ ((any || (((a || b) || c) || d)) || rest)
or_four true a b c d rest = refl
or_four false true b c d rest = refl
or_four false false true c d rest = refl
or_four false false false true d rest = refl
or_four false false false false d rest = or_one false d rest

-- one flag more was looked at
pub any_behind_one : (any : Bool) (flags : List Bool) (k : ℕ) → k < length flags
    → (any || list_any (λ (flag : Bool). flag) (drop k flags))
    ≡ ((any || get_or flags k false) || list_any (λ (flag : Bool). flag) (drop (k + 1) flags))
any_behind_one any flags k h =
    ap (λ (l : List Bool). any || list_any (λ (flag : Bool). flag) l) (drop_more flags k false h)
    ∙ or_one any (get_or flags k false) (list_any (λ (flag : Bool). flag) (drop (k + 1) flags))

-- the next four were looked at
pub any_behind_four : (any : Bool) (flags : List Bool) → 4 ≤ length flags
    → (any || list_any (λ (flag : Bool). flag) flags)
    ≡ ((any || (((get_or flags 0 false || get_or flags 1 false) || get_or flags 2 false) || get_or flags 3 false))
    || list_any (λ (flag : Bool). flag) (drop 4 flags))
any_behind_four any [] h = absurd (omega arith)
any_behind_four any (a ∷ []) h = absurd (omega arith)
any_behind_four any (a ∷ b ∷ []) h = absurd (omega arith)
any_behind_four any (a ∷ b ∷ c ∷ []) h = absurd (omega arith)
any_behind_four any (a ∷ b ∷ c ∷ d ∷ rest) h = or_four any a b c d (list_any (λ (flag : Bool). flag) rest)

pub any_of_none : (any : Bool) (flags : List Bool) (k : ℕ) → length flags ≤ k
    → (any || list_any (λ (flag : Bool). flag) (drop k flags)) ≡ any
any_of_none any flags k past = rw (drop_all k flags past) (or_none any)
  where
    or_none : (any : Bool) → (any || false) ≡ any
    or_none true = refl
    or_none false = refl
