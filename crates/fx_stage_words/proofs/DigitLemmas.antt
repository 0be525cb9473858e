-- Numbers as far as 32 bits hold them.
use Rattle.std.proofs.Common.{◌≡◌, ◌<◌, ◌≤◌, ◌+◌, ◌-◌, ◌*◌, ℕ, min, Bool, true, false, cond, leb, ◌&&◌, List, [], ◌∷◌, length, get_or, take, Option, Some, None, refl, ◌∙◌, ap, arith}
use Rattle.std.proofs.lemmas.Bool.{leb-true}
use Rattle.std.proofs.lemmas.List.{take_more}
use Rattle.fx_text.specs.Digits.{number_of_digits}
use Rattle.fx_text.proofs.DigitLemmas.{number-append}
use Rattle.fx_stage_model.specs.Lines.{is_side}
use Rattle.fx_stage_model.specs.Nodes.{place_of_digits}

-- one digit more
pub digit_more : (digits : List ℕ) (i before times after : ℕ) → i < length digits
    → before ≡ place_of_digits (take i digits) → times ≡ min (before * 10) 4294967295
    → after ≡ min (times + (get_or digits i 0 - 48)) 4294967295 → after ≡ place_of_digits (take (i + 1) digits)
digit_more digits i before times after within b t a =
    let more : number_of_digits (take (i + 1) digits) ≡ number_of_digits (take i digits) * 10 + (get_or digits i 0 - 48) =
    ap number_of_digits (take_more digits i 0 within) ∙ number-append (take i digits) (get_or digits i 0 ∷ []) ∙ omega arith in
    omega (arith, more)

-- no side of a window is so large that it would be cut

abbrev side_or_none : ℕ → Option ℕ
side_or_none n = cond (is_side n) (Some n) None

and_none : (a b : Bool) → b ≡ false → (a && b) ≡ false
and_none true b e = e
and_none false b e = refl

too_long : (n : ℕ) → 2048 < n → side_or_none n ≡ None
too_long n long = ap (λ (b : Bool). cond b (Some n) None) (and_none (leb 1 n) (leb n 2048) (by_test (leb n 2048) refl))
  where
    by_test : (b : Bool) → leb n 2048 ≡ b → b ≡ false
    by_test true e = absurd (let short : n ≤ 2048 = leb-true n 2048 e in omega (arith, short, long))
    by_test false e = refl
