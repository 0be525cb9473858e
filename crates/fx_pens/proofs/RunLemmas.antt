-- The bits of a row of a glyph, as spans: bits side by side are one span.
use Rattle.std.proofs.Common.{◌≡◌, ◌<◌, ◌≤◌, ◌+◌, ◌-◌, ◌*◌, ◌/◌, ◌%◌, ◌^◌, ◌==◌, ◌&&◌, ◌||◌, ◌+ℤ◌, ◌≤ℤ◌, ℕ, zero, suc, nat_lt, ℤ, pos, Bool, true, false, cond, refl, sym, ap, ◌∙◌, arith}
use Rattle.std.specs.Prelude.{int_le, int_lt}
use Rattle.std.proofs.lemmas.Bool.Decides.{nat_tests}
use Rattle.std.proofs.lemmas.Int.{ints}
use Rattle.fx_cells.specs.Columns.{cell_width}
use Rattle.fx_cells.specs.Font.{glyph_of}
use Rattle.fx_picture.specs.Bounds.{in_range}
use Rattle.fx_picture.specs.Shapes.{has_dot}
use Rattle.fx_pens.specs.declared.runs.Bits.{Bits}
use Rattle.fx_pens.specs.declared.spans.Pen.{Pen}
use Rattle.fx_pens.specs.Dots.{bit_dots, bits_of, char_dots, is_in, row_dots}
use Rattle.fx_pens.proofs.LetterLemmas.{and_false, bits_are, three_false}

-- ---- the bits of a row
shifted_bit : (g r k : ℕ) → r < 5 → k < 3 → has_dot g k r ≡ (g / 2 ^ (14 - (3 * r + k)) % 2 == 1)
unfolding has_dot
shifted_bit g r k h l = let a : nat_lt k 3 ≡ true = grind (arith, nat_tests, l) in let b : nat_lt r 5 ≡ true = grind (arith, nat_tests, h) in rw (a, b) refl

left_places : (g r : ℕ) → r < 5 → g / 2 ^ (12 - 3 * r) / 4 ≡ g / 2 ^ (14 - (3 * r + 0))
left_places g zero h = omega arith
left_places g (suc zero) h = omega arith
left_places g (suc (suc zero)) h = omega arith
left_places g (suc (suc (suc zero))) h = omega arith
left_places g (suc (suc (suc (suc zero)))) h = omega arith
left_places g (suc (suc (suc (suc (suc r))))) h = absurd (omega (arith, h))

middle_places : (g r : ℕ) → r < 5 → g / 2 ^ (12 - 3 * r) / 2 ≡ g / 2 ^ (14 - (3 * r + 1))
middle_places g zero h = omega arith
middle_places g (suc zero) h = omega arith
middle_places g (suc (suc zero)) h = omega arith
middle_places g (suc (suc (suc zero))) h = omega arith
middle_places g (suc (suc (suc (suc zero)))) h = omega arith
middle_places g (suc (suc (suc (suc (suc r))))) h = absurd (omega (arith, h))

left_bit : (g r : ℕ) → r < 5 → (g / 2 ^ (12 - 3 * r) / 4 % 2 == 1) ≡ has_dot g 0 r
left_bit g r h = ap (λ n. n % 2 == 1) (left_places g r h) ∙ sym (shifted_bit g r 0 h (omega arith))

middle_bit : (g r : ℕ) → r < 5 → (g / 2 ^ (12 - 3 * r) / 2 % 2 == 1) ≡ has_dot g 1 r
middle_bit g r h = ap (λ n. n % 2 == 1) (middle_places g r h) ∙ sym (shifted_bit g r 1 h (omega arith))

right_bit : (g r : ℕ) → r < 5 → (g / 2 ^ (12 - 3 * r) % 2 == 1) ≡ has_dot g 2 r
right_bit g r h =
    let same : 12 - 3 * r ≡ 14 - (3 * r + 2) = omega arith in
    ap (λ n. g / 2 ^ n % 2 == 1) same ∙ sym (shifted_bit g r 2 h (omega arith))

-- the last three bits of a number
abbrev bits_in : ℕ → Bits
bits_in three = record { left = three / 4 % 2 == 1; middle = three / 2 % 2 == 1; right = three % 2 == 1 }

pub three_bits : (g r : ℕ) → r < 5 → bits_in (g / 2 ^ (12 - 3 * r)) ≡ bits_of g r
three_bits g r h = rw (left_bit g r h, middle_bit g r h, right_bit g r h) refl

-- ---- wherever the bits begin
pub row_is_char : (pen : Pen) (start : ℤ) (c x : ℕ) → 0 < pen.scale → 1 ≤ cell_width c
    → row_dots pen start (bits_of (glyph_of c) (pen.below / pen.scale)) x ≡ char_dots pen start c x
unfolding row_dots
row_is_char pen start c x some wide = bits_are pen start (start +ℤ pos (1 * pen.scale)) (start +ℤ pos (2 * pen.scale)) c x some wide refl refl

pub row_same : (pen : Pen) (start at0 at1 at2 : ℤ) (bits : Bits) (x : ℕ) → at0 ≡ start → at1 ≡ start +ℤ pos (1 * pen.scale) → at2 ≡ start +ℤ pos (2 * pen.scale)
    → (((bits.left && bit_dots pen at0 x) || (bits.middle && bit_dots pen at1 x)) || (bits.right && bit_dots pen at2 x)) ≡ row_dots pen start bits x
unfolding row_dots
row_same pen start at0 at1 at2 bits x p0 p1 p2 = rw (p0, p1, p2) refl

bit_high : (pen : Pen) (at : ℤ) (x : ℕ) → (at +ℤ pos pen.scale) ≤ℤ pos x → bit_dots pen at x ≡ false
unfolding in_range
bit_high pen at x h = let off : int_lt (pos x) (at +ℤ pos pen.scale) ≡ false = past (pos x) (at +ℤ pos pen.scale) h in rw off (and_false (int_le at (pos x)))
  where
    past : (n m : ℤ) → m ≤ℤ n → int_lt n m ≡ false
    past n m h = grind (arith, ints)

-- bits that lie before a column don't show there
pub row_before : (pen : Pen) (start : ℤ) (bits : Bits) (x : ℕ) → (start +ℤ pos (3 * pen.scale)) ≤ℤ pos x → row_dots pen start bits x ≡ false
unfolding row_dots
row_before pen start bits x h = three_false bits.left bits.middle bits.right _ _ _
    (bit_high pen start x (omega (arith, ints, h)))
    (bit_high pen (start +ℤ pos (1 * pen.scale)) x (omega (arith, ints, h)))
    (bit_high pen (start +ℤ pos (2 * pen.scale)) x (omega (arith, ints, h)))

-- ---- where they begin at a column
pub alone_near : (pen : Pen) (s x : ℕ) → bit_dots pen (pos s) x ≡ is_in s (s + pen.scale) x
unfolding in_range
alone_near pen s x = refl

row_near : (pen : Pen) (s : ℕ) (bits : Bits) (x : ℕ)
    → row_dots pen (pos s) bits x ≡ (((bits.left && is_in s (s + pen.scale) x) || (bits.middle && is_in (s + 1 * pen.scale) (s + 1 * pen.scale + pen.scale) x))
    || (bits.right && is_in (s + 2 * pen.scale) (s + 2 * pen.scale + pen.scale) x))
unfolding row_dots in_range
row_near pen s bits x = refl

joined_span : (s n x : ℕ) (l r : Bool) → is_in (cond l s (s + n)) (cond r (s + 3 * n) (s + 2 * n)) x
    ≡ (((l && is_in s (s + n) x) || is_in (s + 1 * n) (s + 1 * n + n) x) || (r && is_in (s + 2 * n) (s + 2 * n + n) x))
joined_span s n x true true = grind (arith, nat_tests)
joined_span s n x true false = grind (arith, nat_tests)
joined_span s n x false true = grind (arith, nat_tests)
joined_span s n x false false = grind (arith, nat_tests)

-- the run over the middle bit
pub joined_is : (pen : Pen) (s from to : ℕ) (bits : Bits) (x : ℕ) → bits.middle ≡ true
    → from ≡ cond bits.left s (s + pen.scale) → to ≡ cond bits.right (s + 3 * pen.scale) (s + 2 * pen.scale) → is_in from to x ≡ row_dots pen (pos s) bits x
joined_is pen s from to bits x m p q =
    rw (p, q, row_near pen s bits x, m) (joined_span s pen.scale x bits.left bits.right)

-- both bits beside a middle one that isn't set
pub beside_is : (pen : Pen) (s t : ℕ) (bits : Bits) (x : ℕ) → bits.middle ≡ false → t ≡ s + 2 * pen.scale
    → ((bits.left && bit_dots pen (pos s) x) || (bits.right && bit_dots pen (pos t) x)) ≡ row_dots pen (pos s) bits x
unfolding row_dots
beside_is pen s t bits x m e =
    rw (e, m) (ap (λ u. u || (bits.right && bit_dots pen (pos (s + 2 * pen.scale)) x)) (sym (or_none (bits.left && bit_dots pen (pos s) x))))
  where
    or_none : (a : Bool) → (a || false) ≡ a
    or_none true = refl
    or_none false = refl
