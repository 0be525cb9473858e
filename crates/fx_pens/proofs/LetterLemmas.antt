-- A row of letters is the rows of its glyphs side by side, and a row of a glyph is three bits side by side.
use Rattle.std.proofs.Common.{◌≡◌, ◌<◌, ◌≤◌, ◌+◌, ◌-◌, ◌*◌, ◌^◌, ◌/◌, ◌%◌, ◌&&◌, ◌||◌, ◌+ℤ◌, ◌-ℤ◌, ◌≤ℤ◌, ◌<ℤ◌, ◌==◌, ℕ, ℤ, pos, negsuc, suc, zero, Bool, true, false, cond, List, [], ◌∷◌, ◌++◌, refl, sym, ap, ◌∙◌, arith, inl, inr, leb, nat_lt}
use Rattle.std.specs.Prelude.{int_le, int_lt}
use Rattle.std.proofs.lemmas.Bool.Decides.{leb_tells, nat_tests}
use Rattle.std.proofs.lemmas.Int.{ints, by_lt_z}
use Rattle.std.proofs.lemmas.List.Sums.{sum_by-append, sum_by-cons}
use Rattle.std.proofs.lemmas.Nat.{div-mul-add}
use Rattle.fx_cells.specs.Columns.{cell_width, cells_of}
use Rattle.fx_cells.specs.Font.{glyph_of}
use Rattle.fx_picture.specs.Bounds.{in_range}
use Rattle.fx_picture.specs.Shapes.{has_dot, ink, whole}
use Rattle.fx_pens.specs.declared.spans.Pen.{Pen}
use Rattle.fx_pens.specs.Dots.{bit_dots, char_dots, is_in, line_dots}

-- ---- columns counted from a start
before : (start : ℤ) (a b x : ℕ) → pos x <ℤ start → in_range (start +ℤ pos a) (start +ℤ pos b) x ≡ false
unfolding in_range
before start a b x h = let off : int_le (start +ℤ pos a) (pos x) ≡ false = first (start +ℤ pos a) (pos x) (omega (arith, ints, h)) in rw off refl
  where
    first : (n m : ℤ) → m <ℤ n → int_le n m ≡ false
    first n m h = grind (arith, ints)

le_same : (n m : ℤ) (k l : ℕ) → (n ≤ℤ m → k ≤ l) → (m <ℤ n → l < k) → int_le n m ≡ leb k l
le_same n m k l to from = by_lt_z m n
    (λ p. (let q = from p in let s : int_le n m ≡ false = grind (arith, ints, p) in let t : leb k l ≡ false = grind (arith, nat_tests, q) in s ∙ sym t))
    (λ p. (let q = to p in let s : int_le n m ≡ true = grind (arith, ints, p) in let t : leb k l ≡ true = grind (arith, nat_tests, q) in s ∙ sym t))

lt_same : (n m : ℤ) (k l : ℕ) → (n <ℤ m → k < l) → (m ≤ℤ n → l ≤ k) → int_lt n m ≡ leb (suc k) l
lt_same n m k l to from = by_lt_z n m
    (λ p. (let q = to p in let s : int_lt n m ≡ true = grind (arith, ints, p) in let t : leb (suc k) l ≡ true = grind (arith, nat_tests, q) in s ∙ sym t))
    (λ p. (let q = from p in let s : int_lt n m ≡ false = grind (arith, ints, p) in let t : leb (suc k) l ≡ false = grind (arith, nat_tests, q) in s ∙ sym t))

shifted : (start : ℤ) (a b x m : ℕ) → pos x ≡ start +ℤ pos m → in_range (start +ℤ pos a) (start +ℤ pos b) x ≡ is_in a b m
unfolding in_range
shifted start a b x m e =
    let one = le_same (start +ℤ pos a) (pos x) a m (λ p. omega (arith, ints, p, e)) (λ p. omega (arith, ints, p, e)) in
    let two = lt_same (pos x) (start +ℤ pos b) m b (λ p. omega (arith, ints, p, e)) (λ p. omega (arith, ints, p, e)) in
    rw (one, two) refl

whole_pos : (z : ℤ) → pos 0 ≤ℤ z → pos (whole z) ≡ z
whole_pos (pos n) h = refl
whole_pos (negsuc n) h = absurd (omega (arith, ints, h))

-- ---- three bits of a glyph
third : (g r : ℕ) (q : ℕ) → 3 ≤ q → has_dot g q r ≡ false
unfolding has_dot
third g r q h = let off : nat_lt q 3 ≡ false = grind (arith, nat_tests, h) in rw off refl

div_is : (m s k : ℕ) → k * s ≤ m → m < k * s + s → m / s ≡ k
div_is m s k a b =
    let e : k * s + (m - k * s) ≡ m = omega (arith, a) in
    ap (λ n. n / s) (sym e) ∙ div-mul-add k s (m - k * s) (omega (arith, a, b))

div_most : (m s : ℕ) → 0 < s → 3 * s ≤ m → 3 ≤ m / s
div_most m s some h = elim (leb_tells 3 (m / s)) [ inl t ↦ t.1 | inr t ↦ absurd (low (m / s) refl t.1) ]
  where
    low : (q : ℕ) → m / s ≡ q → q < 3 → ⊥
    low zero e l = let f : s * (m / s) + m % s ≡ m = omega (arith, some) in let r : m % s < s = omega (arith, some) in let g : s * 0 + m % s ≡ m = ap (λ n. s * n + m % s) (sym e) ∙ f in omega (arith, g, r, h)
    low (suc zero) e l = let f : s * (m / s) + m % s ≡ m = omega (arith, some) in let r : m % s < s = omega (arith, some) in let g : s * 1 + m % s ≡ m = ap (λ n. s * n + m % s) (sym e) ∙ f in omega (arith, g, r, h)
    low (suc (suc zero)) e l = let f : s * (m / s) + m % s ≡ m = omega (arith, some) in let r : m % s < s = omega (arith, some) in let g : s * 2 + m % s ≡ m = ap (λ n. s * n + m % s) (sym e) ∙ f in omega (arith, g, r, h)
    low (suc (suc (suc q))) e l = omega (arith, l)

in_yes : (a b m : ℕ) → a ≤ m → m < b → is_in a b m ≡ true
in_yes a b m p q = grind (arith, nat_tests)

in_low : (a b m : ℕ) → m < a → is_in a b m ≡ false
in_low a b m p = grind (arith, nat_tests)

in_high : (a b m : ℕ) → b ≤ m → is_in a b m ≡ false
in_high a b m p = grind (arith, nat_tests)

pub and_false : (a : Bool) → (a && false) ≡ false
and_false true = refl
and_false false = refl

second : (a b c : Bool) → (((a && false) || (b && true)) || (c && false)) ≡ b
second true true true = refl
second true true false = refl
second true false true = refl
second true false false = refl
second false true true = refl
second false true false = refl
second false false true = refl
second false false false = refl

last : (a b c : Bool) → (((a && false) || (b && false)) || (c && true)) ≡ c
last true true true = refl
last true true false = refl
last true false true = refl
last true false false = refl
last false true true = refl
last false true false = refl
last false false true = refl
last false false false = refl

none : (a b c : Bool) → (((a && false) || (b && false)) || (c && false)) ≡ false
none true true true = refl
none true true false = refl
none true false true = refl
none true false false = refl
none false true true = refl
none false true false = refl
none false false true = refl
none false false false = refl

glyph_bits : (g r s cells m : ℕ) → 0 < s → 1 ≤ cells
    → (((has_dot g 0 r && is_in 0 s m) || (has_dot g 1 r && is_in (1 * s) (1 * s + s) m)) || (has_dot g 2 r && is_in (2 * s) (2 * s + s) m))
    ≡ (is_in 0 (4 * cells * s) m && has_dot g (m / s) r)
glyph_bits g r s cells m some wide = elim (leb_tells s m) [
  | inr t ↦ (
      let q : m / s ≡ 0 = div_is m s 0 (omega arith) (omega (arith, t.1)) in
      let i0 = in_yes 0 s m (omega arith) t.1 in
      let i1 = in_low (1 * s) (1 * s + s) m (omega (arith, t.1)) in
      let i2 = in_low (2 * s) (2 * s + s) m (omega (arith, t.1)) in
      let more : s ≤ 4 * cells * s = grown s cells wide in
      let all = in_yes 0 (4 * cells * s) m (omega arith) (omega (arith, t.1, more)) in
      rw (i0, i1, i2, all, q) (first (has_dot g 0 r) (has_dot g 1 r) (has_dot g 2 r)))
  | inl t ↦ elim (leb_tells (2 * s) m) [
    | inr u ↦ (
        let q : m / s ≡ 1 = div_is m s 1 (omega (arith, t.1)) (omega (arith, u.1)) in
        let i0 = in_high 0 s m t.1 in
        let i1 = in_yes (1 * s) (1 * s + s) m (omega (arith, t.1)) (omega (arith, u.1)) in
        let i2 = in_low (2 * s) (2 * s + s) m u.1 in
        let more : 4 * s ≤ 4 * cells * s = grown_four s cells wide in
        let all = in_yes 0 (4 * cells * s) m (omega arith) (omega (arith, u.1, more)) in
        rw (i0, i1, i2, all, q) (second (has_dot g 0 r) (has_dot g 1 r) (has_dot g 2 r)))
    | inl u ↦ elim (leb_tells (3 * s) m) [
      | inr v ↦ (
          let q : m / s ≡ 2 = div_is m s 2 u.1 (omega (arith, v.1)) in
          let i0 = in_high 0 s m t.1 in
          let i1 = in_high (1 * s) (1 * s + s) m (omega (arith, u.1)) in
          let i2 = in_yes (2 * s) (2 * s + s) m u.1 (omega (arith, v.1)) in
          let more : 4 * s ≤ 4 * cells * s = grown_four s cells wide in
          let all = in_yes 0 (4 * cells * s) m (omega arith) (omega (arith, v.1, more)) in
          rw (i0, i1, i2, all, q) (last (has_dot g 0 r) (has_dot g 1 r) (has_dot g 2 r)))
      | inl v ↦ (
          let dark = third g r (m / s) (div_most m s some v.1) in
          let i0 = in_high 0 s m t.1 in
          let i1 = in_high (1 * s) (1 * s + s) m (omega (arith, u.1)) in
          let i2 = in_high (2 * s) (2 * s + s) m (omega (arith, v.1)) in
          rw (i0, i1, i2, dark) (none (has_dot g 0 r) (has_dot g 1 r) (has_dot g 2 r) ∙ sym (and_false (is_in 0 (4 * cells * s) m))))
    ]
  ]
]
  where
    first : (a b c : Bool) → (((a && true) || (b && false)) || (c && false)) ≡ a
    first true true true = refl
    first true true false = refl
    first true false true = refl
    first true false false = refl
    first false true true = refl
    first false true false = refl
    first false false true = refl
    first false false false = refl

    grown : (s cells : ℕ) → 1 ≤ cells → s ≤ 4 * cells * s
    grown s zero h = absurd (omega (arith, h))
    grown s (suc n) h = omega arith

    grown_four : (s cells : ℕ) → 1 ≤ cells → 4 * s ≤ 4 * cells * s
    grown_four s zero h = absurd (omega (arith, h))
    grown_four s (suc n) h = omega arith

-- ---- letters side by side
wide-append : (cs ds : List ℕ) (s : ℕ) → 4 * cells_of (cs ++ ds) * s ≡ 4 * cells_of cs * s + 4 * cells_of ds * s
wide-append cs ds s = let e = sum_by-append cell_width cs ds in rw e (omega arith)

wide-cons : (c : ℕ) (cs : List ℕ) (s : ℕ) → 4 * cells_of (c ∷ cs) * s ≡ 4 * cell_width c * s + 4 * cells_of cs * s
wide-cons c cs s = let e = sum_by-cons cell_width c cs in rw e (omega arith)

pub ink-append : (cs ds : List ℕ) (s m b : ℕ) → ink (cs ++ ds) s m b ≡ cond (nat_lt m (4 * cells_of cs * s)) (ink cs s m b) (ink ds s (m - 4 * cells_of cs * s) b)
unfolding ink
ink-append [] ds s m b = let off : nat_lt m (4 * 0 * s) ≡ false = grind (arith, nat_tests) in rw off (ap (λ n. ink ds s n b) (omega arith))
ink-append (c ∷ cs) ds s m b =
    let w = 4 * cell_width c * s in
    let all : 4 * cells_of (c ∷ cs) * s ≡ w + 4 * cells_of cs * s = wide-cons c cs s in
    elim (leb_tells (suc m) w) [
      | inl t ↦ (
          let here : nat_lt m w ≡ true = t.0 in
          let in' : nat_lt m (4 * cells_of (c ∷ cs) * s) ≡ true = grind (arith, nat_tests, all, t.1) in
          rw (in', here) refl)
      | inr t ↦ (
          let off : nat_lt m w ≡ false = t.0 in
          let rest = ink-append cs ds s (m - w) b in
          let same : nat_lt (m - w) (4 * cells_of cs * s) ≡ nat_lt m (4 * cells_of (c ∷ cs) * s) = grind (arith, nat_tests, all, t.1) in
          let left : (m - w) - 4 * cells_of cs * s ≡ m - 4 * cells_of (c ∷ cs) * s = omega (arith, all) in
          rw off (rest ∙ (ap (λ t. cond t (ink cs s (m - w) b) (ink ds s ((m - w) - 4 * cells_of cs * s) b)) same
          ∙ ap (λ n. cond (nat_lt m (4 * cells_of (c ∷ cs) * s)) (ink cs s (m - w) b) (ink ds s n b)) left)))
    ]

whole_none : (z : ℤ) → z ≤ℤ pos 0 → whole z ≡ 0
whole_none (pos zero) h = refl
whole_none (pos (suc n)) h = absurd (omega (arith, ints, h))
whole_none (negsuc n) h = refl

whole_same : (z : ℤ) (n : ℕ) → z ≡ pos n → whole z ≡ n
whole_same z n e = ap whole e

whole_less : (start : ℤ) (w x m : ℕ) → pos x ≡ start +ℤ pos m → whole (pos x -ℤ (start +ℤ pos w)) ≡ m - w
whole_less start w x m e = elim (leb_tells w m) [
  | inl t ↦ whole_same (pos x -ℤ (start +ℤ pos w)) (m - w) (omega (arith, ints, t.1, e))
  | inr t ↦ whole_none (pos x -ℤ (start +ℤ pos w)) (omega (arith, ints, t.1, e)) ∙ omega (arith, t.1)
]

from_start : (start : ℤ) (b x m : ℕ) → pos x ≡ start +ℤ pos m → in_range start (start +ℤ pos b) x ≡ is_in 0 b m
from_start start b x m e =
    let same : start ≡ start +ℤ pos 0 = omega (arith, ints) in
    ap (λ n. in_range n (start +ℤ pos b) x) same ∙ shifted start 0 b x m e

before_start : (start : ℤ) (b x : ℕ) → pos x <ℤ start → in_range start (start +ℤ pos b) x ≡ false
before_start start b x h =
    let same : start ≡ start +ℤ pos 0 = omega (arith, ints) in
    ap (λ n. in_range n (start +ℤ pos b) x) same ∙ before start 0 b x h

-- by where a column lies
by_column : (P : Type 0) (start : ℤ) (x : ℕ) → (pos x <ℤ start → P) → ((m : ℕ) → pos x ≡ start +ℤ pos m → P) → P
by_column P start x low high = by_lt_z (pos x) start low
    (λ p. high (whole (pos x -ℤ start))
    (let e : pos (whole (pos x -ℤ start)) ≡ pos x -ℤ start = whole_pos (pos x -ℤ start) (omega (arith, ints, p)) in omega (arith, ints, e)))

-- ---- a character
bit_low : (pen : Pen) (start at : ℤ) (k x : ℕ) → at ≡ start +ℤ pos k → pos x <ℤ start → bit_dots pen at x ≡ false
bit_low pen start at k x is h =
    let end : at +ℤ pos pen.scale ≡ start +ℤ pos (k + pen.scale) = omega (arith, ints, is) in
    ap (λ n. in_range n (at +ℤ pos pen.scale) x) is ∙ (ap (λ n. in_range (start +ℤ pos k) n x) end ∙ before start k (k + pen.scale) x h)

bit_nat : (pen : Pen) (start at : ℤ) (k x m : ℕ) → at ≡ start +ℤ pos k → pos x ≡ start +ℤ pos m → bit_dots pen at x ≡ is_in k (k + pen.scale) m
bit_nat pen start at k x m is e =
    let end : at +ℤ pos pen.scale ≡ start +ℤ pos (k + pen.scale) = omega (arith, ints, is) in
    ap (λ n. in_range n (at +ℤ pos pen.scale) x) is ∙ (ap (λ n. in_range (start +ℤ pos k) n x) end ∙ shifted start k (k + pen.scale) x m e)

char_low : (pen : Pen) (start : ℤ) (c x : ℕ) → pos x <ℤ start → char_dots pen start c x ≡ false
unfolding char_dots
char_low pen start c x h = let off = before_start start (4 * cell_width c * pen.scale) x h in rw off refl

char_nat : (pen : Pen) (start : ℤ) (c x m : ℕ) → pos x ≡ start +ℤ pos m
    → char_dots pen start c x ≡ (is_in 0 (4 * cell_width c * pen.scale) m && has_dot (glyph_of c) (m / pen.scale) (pen.below / pen.scale))
unfolding char_dots
char_nat pen start c x m e =
    let at : whole (pos x -ℤ start) ≡ m = whole_same (pos x -ℤ start) m (omega (arith, ints, e)) in
    ap (λ n. in_range start (start +ℤ pos (4 * cell_width c * pen.scale)) x && has_dot (glyph_of c) (n / pen.scale) (pen.below / pen.scale)) at
    ∙ ap (λ t. t && has_dot (glyph_of c) (m / pen.scale) (pen.below / pen.scale)) (from_start start (4 * cell_width c * pen.scale) x m e)

pub char_none : (pen : Pen) (start : ℤ) (c x : ℕ) → cell_width c ≡ 0 → char_dots pen start c x ≡ false
char_none pen start c x h = by_column (char_dots pen start c x ≡ false) start x (λ p. char_low pen start c x p)
    (λ m e. (let off : is_in 0 (4 * cell_width c * pen.scale) m ≡ false = in_high 0 (4 * cell_width c * pen.scale) m (rw h (omega arith)) in
    char_nat pen start c x m e ∙ rw off refl))

pub three_false : (a b c : Bool) (t u v : Bool) → t ≡ false → u ≡ false → v ≡ false → (((a && t) || (b && u)) || (c && v)) ≡ false
three_false a b c t u v p q r = rw (p, q, r) (none a b c)

pub bits_are : (pen : Pen) (start one two : ℤ) (c x : ℕ) → 0 < pen.scale → 1 ≤ cell_width c → one ≡ start +ℤ pos (1 * pen.scale) → two ≡ start +ℤ pos (2 * pen.scale)
    → (((has_dot (glyph_of c) 0 (pen.below / pen.scale) && bit_dots pen start x) || (has_dot (glyph_of c) 1 (pen.below / pen.scale) && bit_dots pen one x))
    || (has_dot (glyph_of c) 2 (pen.below / pen.scale) && bit_dots pen two x)) ≡ char_dots pen start c x
bits_are pen start one two c x some wide p q =
    let zero' : start ≡ start +ℤ pos 0 = omega (arith, ints) in
    by_column ((((has_dot (glyph_of c) 0 (pen.below / pen.scale) && bit_dots pen start x) || (has_dot (glyph_of c) 1 (pen.below / pen.scale) && bit_dots pen one x))
    || (has_dot (glyph_of c) 2 (pen.below / pen.scale) && bit_dots pen two x)) ≡ char_dots pen start c x) start x
    (λ low. three_false _ _ _ _ _ _ (bit_low pen start start 0 x zero' low) (bit_low pen start one (1 * pen.scale) x p low) (bit_low pen start two (2 * pen.scale) x q low)
    ∙ sym (char_low pen start c x low))
    (λ m e. (let b0 : bit_dots pen start x ≡ is_in 0 pen.scale m = bit_nat pen start start 0 x m zero' e ∙ ap (λ n. is_in 0 n m) (zero_plus pen.scale) in
    let b1 = bit_nat pen start one (1 * pen.scale) x m p e in
    let b2 = bit_nat pen start two (2 * pen.scale) x m q e in
    rw (b0, b1, b2) (glyph_bits (glyph_of c) (pen.below / pen.scale) pen.scale (cell_width c) m some wide) ∙ sym (char_nat pen start c x m e)))
  where
    zero_plus : (n : ℕ) → 0 + n ≡ n
    zero_plus n = omega arith

apart_two : (a b t u : Bool) → (t && u) ≡ false → ((a && t) && (b && u)) ≡ false
apart_two true true t u h = h
apart_two true false true u h = refl
apart_two true false false u h = refl
apart_two false b t u h = refl

in_apart : (a b c d m : ℕ) → b ≤ c → (is_in a b m && is_in c d m) ≡ false
in_apart a b c d m h = elim (leb_tells b m) [
  | inl t ↦ (let off = in_high a b m t.1 in rw off refl)
  | inr t ↦ (let off = in_low c d m (omega (arith, t.1, h)) in rw off (and_false (is_in a b m)))
]

pub bits_apart : (pen : Pen) (start at to : ℤ) (k l x : ℕ) (a b : Bool) → at ≡ start +ℤ pos k → to ≡ start +ℤ pos l → k + pen.scale ≤ l
    → ((a && bit_dots pen at x) && (b && bit_dots pen to x)) ≡ false
bits_apart pen start at to k l x a b p q h = apart_two a b (bit_dots pen at x) (bit_dots pen to x)
    (by_column ((bit_dots pen at x && bit_dots pen to x) ≡ false) start x
    (λ low. (let off = bit_low pen start at k x p low in rw off refl))
    (λ m e. (let one = bit_nat pen start at k x m p e in let two = bit_nat pen start to l x m q e in rw (one, two) (in_apart k (k + pen.scale) l (l + pen.scale) m h))))

-- ---- a line
line_low : (pen : Pen) (start : ℤ) (cs : List ℕ) (x : ℕ) → pos x <ℤ start → line_dots pen start cs x ≡ false
unfolding line_dots
line_low pen start cs x h = let off = before_start start (4 * cells_of cs * pen.scale) x h in rw off refl

line_nat : (pen : Pen) (start : ℤ) (cs : List ℕ) (x m : ℕ) → pos x ≡ start +ℤ pos m
    → line_dots pen start cs x ≡ (is_in 0 (4 * cells_of cs * pen.scale) m && ink cs pen.scale m pen.below)
unfolding line_dots
line_nat pen start cs x m e =
    let at : whole (pos x -ℤ start) ≡ m = whole_same (pos x -ℤ start) m (omega (arith, ints, e)) in
    ap (λ n. in_range start (start +ℤ pos (4 * cells_of cs * pen.scale)) x && ink cs pen.scale n pen.below) at
    ∙ ap (λ t. t && ink cs pen.scale m pen.below) (from_start start (4 * cells_of cs * pen.scale) x m e)

pub line_nil : (pen : Pen) (start : ℤ) (x : ℕ) → line_dots pen start [] x ≡ false
line_nil pen start x = by_column (line_dots pen start [] x ≡ false) start x (λ p. line_low pen start [] x p)
    (λ m e. (let off : is_in 0 (4 * cells_of [] * pen.scale) m ≡ false = in_high 0 (4 * 0 * pen.scale) m (omega arith) in line_nat pen start [] x m e ∙ rw off refl))

-- a character behind a line, in columns from the line's start
behind_nat : (pen : Pen) (start : ℤ) (w c x m : ℕ) → pos x ≡ start +ℤ pos m
    → char_dots pen (start +ℤ pos w) c x ≡ (is_in w (w + 4 * cell_width c * pen.scale) m && has_dot (glyph_of c) ((m - w) / pen.scale) (pen.below / pen.scale))
unfolding char_dots
behind_nat pen start w c x m e =
    let k = 4 * cell_width c * pen.scale in
    let end : (start +ℤ pos w) +ℤ pos k ≡ start +ℤ pos (w + k) = omega (arith, ints) in
    ap (λ n. in_range (start +ℤ pos w) n x && has_dot (glyph_of c) (whole (pos x -ℤ (start +ℤ pos w)) / pen.scale) (pen.below / pen.scale)) end
    ∙ (ap (λ t. t && has_dot (glyph_of c) (whole (pos x -ℤ (start +ℤ pos w)) / pen.scale) (pen.below / pen.scale)) (shifted start w (w + k) x m e)
    ∙ ap (λ n. is_in w (w + k) m && has_dot (glyph_of c) (n / pen.scale) (pen.below / pen.scale)) (whole_less start w x m e))

more_nat : (cs : List ℕ) (c s m b : ℕ)
    → (is_in 0 (4 * cells_of (cs ++ c ∷ []) * s) m && ink (cs ++ c ∷ []) s m b)
    ≡ ((is_in 0 (4 * cells_of cs * s) m && ink cs s m b) || (is_in (4 * cells_of cs * s) (4 * cells_of cs * s + 4 * cell_width c * s) m && has_dot (glyph_of c) ((m - 4 * cells_of cs * s) / s) (b / s)))
unfolding ink
more_nat cs c s m b =
    let w = 4 * cells_of cs * s in
    let k = 4 * cell_width c * s in
    let one : cells_of (c ∷ []) ≡ cell_width c = sum_by-cons cell_width c [] ∙ omega arith in
    let all : 4 * cells_of (cs ++ c ∷ []) * s ≡ w + k = wide-append cs (c ∷ []) s ∙ ap (λ n. w + 4 * n * s) one in
    let inks = ink-append cs (c ∷ []) s m b in
    elim (leb_tells w m) [
      | inr t ↦ (
          let here : nat_lt m w ≡ true = grind (arith, nat_tests, t.1) in
          let i0 = in_yes 0 w m (omega arith) t.1 in
          let i1 = in_low w (w + k) m t.1 in
          let i2 = in_yes 0 (w + k) m (omega arith) (omega (arith, t.1)) in
          rw (all, i2, i0, i1, inks, here) (sym (or_none (ink cs s m b))))
      | inl t ↦ elim (leb_tells (w + k) m) [
        | inl u ↦ (
            let i0 = in_high 0 w m t.1 in
            let i1 = in_high w (w + k) m u.1 in
            let i2 = in_high 0 (w + k) m u.1 in
            rw (all, i2, i0, i1) refl)
        | inr u ↦ (
            let off : nat_lt m w ≡ false = grind (arith, nat_tests, t.1) in
            let last : nat_lt (m - w) k ≡ true = grind (arith, nat_tests, t.1, u.1) in
            let i0 = in_high 0 w m t.1 in
            let i1 = in_yes w (w + k) m t.1 u.1 in
            let i2 = in_yes 0 (w + k) m (omega arith) u.1 in
            rw (all, i2, i0, i1, inks, off, last) refl)
      ]
    ]
  where
    or_none : (a : Bool) → (a || false) ≡ a
    or_none true = refl
    or_none false = refl

pub line_more : (pen : Pen) (start : ℤ) (cs : List ℕ) (c x : ℕ)
    → (line_dots pen start cs x || char_dots pen (start +ℤ pos (4 * cells_of cs * pen.scale)) c x) ≡ line_dots pen start (cs ++ c ∷ []) x
line_more pen start cs c x =
    let w = 4 * cells_of cs * pen.scale in
    by_column ((line_dots pen start cs x || char_dots pen (start +ℤ pos w) c x) ≡ line_dots pen start (cs ++ c ∷ []) x) start x
    (λ p. (let a = line_low pen start cs x p in let b = char_low pen (start +ℤ pos w) c x (omega (arith, ints, p)) in let d = line_low pen start (cs ++ c ∷ []) x p in rw (a, b, d) refl))
    (λ m e. (let a = line_nat pen start cs x m e in let b = behind_nat pen start w c x m e in let d = line_nat pen start (cs ++ c ∷ []) x m e in
    rw (a, b) (sym (more_nat cs c pen.scale m pen.below)) ∙ sym d))

pub line_apart : (pen : Pen) (start : ℤ) (cs : List ℕ) (c x : ℕ)
    → (line_dots pen start cs x && char_dots pen (start +ℤ pos (4 * cells_of cs * pen.scale)) c x) ≡ false
line_apart pen start cs c x =
    let w = 4 * cells_of cs * pen.scale in
    by_column ((line_dots pen start cs x && char_dots pen (start +ℤ pos w) c x) ≡ false) start x
    (λ p. (let a = line_low pen start cs x p in rw a refl))
    (λ m e. (let a = line_nat pen start cs x m e in let b = behind_nat pen start w c x m e in
    rw (a, b) (mixed (is_in 0 w m) (is_in w (w + 4 * cell_width c * pen.scale) m) (ink cs pen.scale m pen.below) (has_dot (glyph_of c) ((m - w) / pen.scale) (pen.below / pen.scale)) (in_apart 0 w w (w + 4 * cell_width c * pen.scale) m (omega arith)))))
  where
    mixed : (a b t u : Bool) → (a && b) ≡ false → ((a && t) && (b && u)) ≡ false
    mixed true true t u h = cc
    mixed true false true u h = refl
    mixed true false false u h = refl
    mixed false b t u h = refl

-- below the rows of its glyphs a line is blank
pub row_blank : (g q r : ℕ) → 5 ≤ r → has_dot g q r ≡ false
unfolding has_dot
row_blank g q r h = let off : nat_lt r 5 ≡ false = grind (arith, nat_tests, h) in rw off (ap (λ t. t && (g / 2 ^ (14 - (3 * r + q)) % 2 == 1)) (and_false (nat_lt q 3)))

ink_blank : (cs : List ℕ) (s m b : ℕ) → 5 ≤ b / s → ink cs s m b ≡ false
unfolding ink
ink_blank [] s m b h = refl
ink_blank (c ∷ cs) s m b h =
    let off = row_blank (glyph_of c) (m / s) (b / s) h in
    let rest = ink_blank cs s (m - 4 * cell_width c * s) b h in
    rw (off, rest) (either (nat_lt m (4 * cell_width c * s)))
  where
    either : (t : Bool) → cond t false false ≡ false
    either true = refl
    either false = refl

pub line_blank : (pen : Pen) (start : ℤ) (cs : List ℕ) (x : ℕ) → 5 ≤ pen.below / pen.scale → line_dots pen start cs x ≡ false
unfolding line_dots
line_blank pen start cs x h =
    let off = ink_blank cs pen.scale (whole (pos x -ℤ start)) pen.below h in
    rw off (and_false (in_range start (start +ℤ pos (4 * cells_of cs * pen.scale)) x))

-- what lies before the rest doesn't see it
pub line_rest : (pen : Pen) (start : ℤ) (cs ds : List ℕ) (x : ℕ) → pos x <ℤ (start +ℤ pos (4 * cells_of cs * pen.scale))
    → line_dots pen start cs x ≡ line_dots pen start (cs ++ ds) x
line_rest pen start cs ds x h =
    let w = 4 * cells_of cs * pen.scale in
    by_column (line_dots pen start cs x ≡ line_dots pen start (cs ++ ds) x) start x
    (λ p. line_low pen start cs x p ∙ sym (line_low pen start (cs ++ ds) x p))
    (λ m e. (
    let less : m < w = omega (arith, ints, h, e) in
    let all : 4 * cells_of (cs ++ ds) * pen.scale ≡ w + 4 * cells_of ds * pen.scale = wide-append cs ds pen.scale in
    let i0 = in_yes 0 w m (omega arith) less in
    let i1 : is_in 0 (4 * cells_of (cs ++ ds) * pen.scale) m ≡ true = in_yes 0 (4 * cells_of (cs ++ ds) * pen.scale) m (omega arith) (omega (arith, all, less)) in
    let here : nat_lt m w ≡ true = grind (arith, nat_tests, less) in
    let inks = ink-append cs ds pen.scale m pen.below in
    line_nat pen start cs x m e ∙ (rw (i0, i1, inks, here) refl ∙ sym (line_nat pen start (cs ++ ds) x m e))))

or_apart : (a b c : Bool) → (a && c) ≡ false → (b && c) ≡ false → ((a || b) && c) ≡ false
or_apart true b c h k = h
or_apart false b c h k = k

pub bits_apart_both : (pen : Pen) (start at0 at1 at2 : ℤ) (x : ℕ) (a0 a1 a2 : Bool) → at0 ≡ start → at1 ≡ start +ℤ pos (1 * pen.scale) → at2 ≡ start +ℤ pos (2 * pen.scale)
    → (((a0 && bit_dots pen at0 x) || (a1 && bit_dots pen at1 x)) && (a2 && bit_dots pen at2 x)) ≡ false
bits_apart_both pen start at0 at1 at2 x a0 a1 a2 p0 p1 p2 =
    let zero' : at0 ≡ start +ℤ pos 0 = omega (arith, ints, p0) in
    or_apart (a0 && bit_dots pen at0 x) (a1 && bit_dots pen at1 x) (a2 && bit_dots pen at2 x)
    (bits_apart pen start at0 at2 0 (2 * pen.scale) x a0 a2 zero' p2 (omega arith))
    (bits_apart pen start at1 at2 (1 * pen.scale) (2 * pen.scale) x a1 a2 p1 p2 (omega arith))

pub wide_one : (cs : List ℕ) (c s : ℕ) → 4 * cells_of (cs ++ c ∷ []) * s ≡ 4 * cells_of cs * s + 4 * cell_width c * s
wide_one cs c s =
    let one : cells_of (c ∷ []) ≡ cell_width c = sum_by-cons cell_width c [] ∙ omega arith in
    wide-append cs (c ∷ []) s ∙ ap (λ n. 4 * cells_of cs * s + 4 * n * s) one

pub add_more : (z first : ℤ) (w k : ℕ) → z ≡ first +ℤ pos w → z +ℤ pos k ≡ first +ℤ pos (w + k)
add_more z first w k e = omega (arith, ints, e)

pub le_from : (a b : ℤ) → int_le a b ≡ true → a ≤ℤ b
le_from a b h = grind (arith, ints)
