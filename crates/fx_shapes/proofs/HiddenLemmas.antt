-- A fill is shown where it has an area. A line that begins behind its content isn't shown, and one that begins in it is
-- where it has cells and its content a width.
use Rattle.std.proofs.Common.{◌≡◌, ◌<◌, ◌≤◌, ◌+◌, ◌-◌, ◌*◌, ◌/◌, ◌%◌, ◌==◌, ◌&&◌, ◌||◌, ◌+ℤ◌, ◌≤ℤ◌, ◌<ℤ◌, ℕ, ℤ, pos, negsuc, Bool, true, false, cond, List, min, not, arith, refl, sym, ap, ◌∙◌}
use Rattle.std.specs.Prelude.{chars, int_le, int_lt, nat_lt}
use Rattle.std.specs.Int.{int_max, int_min}
use Rattle.std.proofs.lemmas.Bool.Decides.{nat_tests}
use Rattle.std.proofs.lemmas.Int.{ints, clamps}
use Rattle.fx_base.specs.declared.geometry.Rect.{Rect}
use Rattle.fx_cells.specs.Columns.{cells_of}
use Rattle.fx_panes_parts.specs.Lengths.{aligned}
use Rattle.fx_picture.specs.Bounds.{bounds_of, is_empty}
use Rattle.fx_picture.specs.Shapes.{whole, cells_bounds}
use Rattle.fx_shapes.specs.declared.letters.Block.{Block}
use Rattle.fx_shapes.specs.Drawings.{is_shown}
use Rattle.fx_shapes.specs.Letters.{line_at}
use Rattle.fx_shapes.specs.Rects.{IsContent}

late_by : (y h low high : ℤ) (n k : ℕ) → pos 0 ≤ℤ h → h ≤ℤ pos n → low ≡ y +ℤ pos n → high ≡ low +ℤ pos k
    → int_min high (y +ℤ h) ≤ℤ int_max low y
late_by y h low high n k some short low_is high_is = omega (arith, ints, clamps)

short_from : (h : ℤ) (n : ℕ) → pos 0 ≤ℤ h → whole h ≤ n → h ≤ℤ pos n
short_from (pos m) n some few = omega (arith, ints)
short_from (negsuc m) n some few = omega (arith, ints)

tested : (a b : ℤ) → a ≤ℤ b → int_le a b ≡ true
tested a b h = grind (arith, ints)

either : (a b c : Bool) → b ≡ true → (a && not (c || b)) ≡ false
either true b true h = refl
either true b false h = rw h refl
either false b c h = refl

pub hidden : (b : Block) (i : ℕ) (line : List ℕ) → IsContent b.clip
    → whole b.clip.h ≤ aligned (b.alignment / 3) (6 * b.count * b.scale) (whole b.clip.h) + 6 * i * b.scale
    → is_shown (line_at b (i, line)) ≡ false
unfolding line_at cells_bounds
hidden b i line content late =
    let n : ℕ = aligned (b.alignment / 3) (6 * b.count * b.scale) (whole b.clip.h) + 6 * i * b.scale in
    let short : b.clip.h ≤ℤ pos n = short_from b.clip.h n content.down late in
    either _ _ _ (tested _ _ (late_by b.clip.y b.clip.h (b.clip.y +ℤ pos n) (b.clip.y +ℤ pos n +ℤ pos (6 * b.scale)) n (6 * b.scale) content.down short refl refl))

-- ---- fills
passed : (a b : ℤ) → a <ℤ b → int_le b a ≡ false
passed a b h = grind (arith, ints)

lt_tells : (a b : ℤ) → int_lt a b ≡ true → a <ℤ b
lt_tells a b h = grind (arith, ints)

not_less : (a b : ℤ) → int_lt a b ≡ false → b ≤ℤ a
not_less a b h = grind (arith, ints)

wide_is : (x w : ℤ) → int_le (x +ℤ w) x ≡ not (int_lt (pos 0) w)
wide_is x w = by (int_lt (pos 0) w) refl
  where
    by : (t : Bool) → int_lt (pos 0) w ≡ t → int_le (x +ℤ w) x ≡ not t
    by true h = let more = lt_tells (pos 0) w h in passed x (x +ℤ w) (omega (arith, ints, more))
    by false h = let less = not_less (pos 0) w h in tested (x +ℤ w) x (omega (arith, ints, less))

neither : (a b : Bool) → not (not a || not b) ≡ (a && b)
neither true true = refl
neither true false = refl
neither false b = refl

either_is : (a b p q : Bool) → p ≡ not a → q ≡ not b → not (p || q) ≡ (a && b)
either_is a b p q e f = rw (e, f) (neither a b)

pub area_is : (r : Rect) (a b : Bool) → a ≡ int_lt (pos 0) r.w → b ≡ int_lt (pos 0) r.h → (a && b) ≡ not (is_empty (bounds_of r))
area_is r a b wide high =
    let both : not (is_empty (bounds_of r)) ≡ (int_lt (pos 0) r.w && int_lt (pos 0) r.h) =
    either_is (int_lt (pos 0) r.w) (int_lt (pos 0) r.h) _ _ (wide_is r.x r.w) (wide_is r.y r.h) in
    ap (λ t. t && b) wide ∙ (ap (λ t. int_lt (pos 0) r.w && t) high ∙ sym both)

-- ---- lines that begin in their content
aligned_within : (how used free : ℕ) → aligned how used free ≤ free - used
aligned_within how used free = by (how == 0) (how == 1)
  where
    by : (s t : Bool) → cond s 0 (cond t ((free - used) / 2) (free - used)) ≤ free - used
    by true t = omega arith
    by false true = omega arith
    by false false = omega arith

some : (n : ℕ) → nat_lt 0 n ≡ true → 1 ≤ n
some n h = grind (arith, nat_tests)

none : (n : ℕ) → nat_lt 0 n ≡ false → n ≤ 0
none n h = grind (arith, nat_tests)

across_is : (x w : ℤ) (used s : ℕ) → pos 0 ≤ℤ w → s ≤ whole w - used
    → int_le (int_min ((x +ℤ pos s) +ℤ pos used) (x +ℤ w)) (int_max (x +ℤ pos s) x) ≡ not (nat_lt 0 used && int_lt (pos 0) w)
across_is x (negsuc m) used s h short = absurd (omega (arith, ints, h))
across_is x (pos m) used s h short = by (nat_lt 0 used) (nat_lt 0 m) refl refl
  where
    by : (u v : Bool) → nat_lt 0 used ≡ u → nat_lt 0 m ≡ v
        → int_le (int_min ((x +ℤ pos s) +ℤ pos used) (x +ℤ pos m)) (int_max (x +ℤ pos s) x) ≡ not (u && v)
    by true true p q =
        let a = some used p in let b = some m q in
        let early : int_max (x +ℤ pos s) x <ℤ int_min ((x +ℤ pos s) +ℤ pos used) (x +ℤ pos m) = omega (arith, ints, clamps) in
        passed (int_max (x +ℤ pos s) x) (int_min ((x +ℤ pos s) +ℤ pos used) (x +ℤ pos m)) early
    by true false p q =
        let b = none m q in
        let late : int_min ((x +ℤ pos s) +ℤ pos used) (x +ℤ pos m) ≤ℤ int_max (x +ℤ pos s) x = omega (arith, ints, clamps) in
        tested (int_min ((x +ℤ pos s) +ℤ pos used) (x +ℤ pos m)) (int_max (x +ℤ pos s) x) late
    by false v p q =
        let a = none used p in
        let late : int_min ((x +ℤ pos s) +ℤ pos used) (x +ℤ pos m) ≤ℤ int_max (x +ℤ pos s) x = omega (arith, ints, clamps) in
        tested (int_min ((x +ℤ pos s) +ℤ pos used) (x +ℤ pos m)) (int_max (x +ℤ pos s) x) late

down_is : (y h : ℤ) (n k : ℕ) → n < whole h → 1 ≤ k → int_le (int_min ((y +ℤ pos n) +ℤ pos k) (y +ℤ h)) (int_max (y +ℤ pos n) y) ≡ false
down_is y (negsuc m) n k h high = absurd (omega (arith, h))
down_is y (pos m) n k h high =
    let early : int_max (y +ℤ pos n) y <ℤ int_min ((y +ℤ pos n) +ℤ pos k) (y +ℤ pos m) = omega (arith, ints, clamps) in
    passed (int_max (y +ℤ pos n) y) (int_min ((y +ℤ pos n) +ℤ pos k) (y +ℤ pos m)) early

left : (a c : Bool) → (a && not (not c || false)) ≡ (a && c)
left true true = refl
left true false = refl
left false c = refl

left_is : (a c p q : Bool) → p ≡ not c → q ≡ false → (a && not (p || q)) ≡ (a && c)
left_is a c p q e f = rw (e, f) (left a c)

pub visible : (b : Block) (i : ℕ) (line : List ℕ) → IsContent b.clip → 1 ≤ b.scale
    → aligned (b.alignment / 3) (6 * b.count * b.scale) (whole b.clip.h) + 6 * i * b.scale < whole b.clip.h
    → is_shown (line_at b (i, line)) ≡ (nat_lt 0 b.color.a && (nat_lt 0 (4 * cells_of (chars line) * b.scale) && int_lt (pos 0) b.clip.w))
unfolding line_at cells_bounds
visible b i line content large early =
    let n : ℕ = aligned (b.alignment / 3) (6 * b.count * b.scale) (whole b.clip.h) + 6 * i * b.scale in
    let used : ℕ = 4 * cells_of (chars line) * b.scale in
    let s : ℕ = aligned (b.alignment % 3) used (whole b.clip.w) in
    let across = across_is b.clip.x b.clip.w used s content.across (aligned_within (b.alignment % 3) used (whole b.clip.w)) in
    let down = down_is b.clip.y b.clip.h n (6 * b.scale) early (omega arith) in
    left_is (nat_lt 0 b.color.a) (nat_lt 0 used && int_lt (pos 0) b.clip.w) _ _ across down

more : (n : ℕ) → 1 ≤ n → nat_lt 0 n ≡ true
more n h = grind (arith, nat_tests)

no_more : (n : ℕ) → n ≤ 0 → nat_lt 0 n ≡ false
no_more n h = grind (arith, nat_tests)

pub some_capped : (n most : ℕ) → 1 ≤ most → nat_lt 0 (min n most) ≡ nat_lt 0 n
some_capped n most h = by (nat_lt 0 n) refl
  where
    by : (t : Bool) → nat_lt 0 n ≡ t → nat_lt 0 (min n most) ≡ t
    by true p = let a = some n p in more (min n most) (omega (arith, a, h))
    by false p = let a = none n p in no_more (min n most) (omega (arith, a))
