-- Where a part ends, told by what its bytes mean.
-- Below the answers on cutting.
use Rattle.std.proofs.Common.{◌≡◌, ℕ, ◌≤◌, Bool, not, ◌||◌, List, length, sym, ◌∙◌, ap, arith}
use Rattle.std.proofs.lemmas.List.Sums.{prefix_len-le-length}
use Rattle.std.specs.List.{position_or_len}
use lib.Dec.{eqb}
use Rattle.fx_css.specs.declared.parts.Part.{Part as Held}
use Rattle.fx_css.specs.Numbered.{shown, is_sign}
use Rattle.fx_css.specs.Pieces.{ends_declaration}
use Rattle.fx_css.proofs.NumberedLemmas.{signs_shown, position_of}

pub sign_at : (c : ℕ) (p : Held) → position_or_len (λ b. eqb b c) p.signs.now ≡ position_or_len (is_sign c) (shown p)
unfolding is_sign
sign_at c p = ap (position_or_len (λ b. eqb b c)) (sym (signs_shown p)) ∙ sym (position_of (λ b. eqb b c) (λ m. m.sign) (shown p))

pub end_at : (p : Held) → position_or_len (λ b. eqb b 59 || eqb b 125) p.signs.now ≡ position_or_len ends_declaration (shown p)
unfolding is_sign ends_declaration
end_at p = ap (position_or_len (λ b. eqb b 59 || eqb b 125)) (sym (signs_shown p)) ∙ sym (position_of (λ b. eqb b 59 || eqb b 125) (λ m. m.sign) (shown p))

pub within : {X : Type 0} (test : X → Bool) (xs : List X) (n : ℕ) → n ≡ position_or_len test xs → n ≤ length xs
within test xs n e =
    let h : position_or_len test xs ≤ length xs = position_or_len-le test xs in
    omega (arith, e, h)
  where
    position_or_len-le : {X : Type 0} (test : X → Bool) (xs : List X) → position_or_len test xs ≤ length xs
    position_or_len-le test xs = prefix_len-le-length (λ x. not (test x)) xs
