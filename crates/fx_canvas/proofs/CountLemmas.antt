-- How many points bounds have, and how many of them pass a test.
use Rattle.std.proofs.Common.{◌≡◌, ◌<◌, ◌≤◌, ◌+◌, ◌-◌, ◌*◌, ◌||◌, ◌≤ℤ◌, ◌<ℤ◌, ◌+ℤ◌, ◌-ℤ◌, ℕ, ℤ, pos, negsuc, suc, zero, Bool, true, false, cond, List, [], ◌∷◌, refl, ap, ◌∙◌, arith, inl, inr, ◌⊎◌}
use Rattle.std.specs.Prelude.{count_by, int_le}
use Rattle.std.specs.Int.{int_max, int_min}
use Rattle.std.specs.List.{range_with_len, sum_by}
use Rattle.std.proofs.lemmas.Int.{ints, clamps}
use Rattle.std.proofs.lemmas.List.Sums.{sum_by-cons}
use Rattle.std.proofs.Math.Nat.{mul-le-mul_left, mul-le-mul_right}
use Rattle.fx_base.specs.Rectangle.{in_span, inside}
use Rattle.fx_base.specs.declared.geometry.Rect.{Rect}
use Rattle.fx_canvas.specs.Painting.{area_of, most_writes, points_in, points_of, writes}
use Rattle.fx_pens.specs.Dots.{count_in}
use Rattle.fx_picture.specs.Bounds.{bounds_of, is_empty, meet}
use Rattle.fx_picture.specs.Pixels.{shapes_of}
use Rattle.fx_picture.specs.Shapes.{bounds, holds, whole}
use Rattle.fx_picture.specs.declared.edges.Bounds.{Bounds}
use Rattle.fx_picture.specs.declared.entries.Entry.{Entry}
use Rattle.fx_picture.specs.declared.shapes.Shape.{Shape}

-- ---- sums
sum_all : (f : ℕ → ℕ) (c from n : ℕ) → ((y : ℕ) → from ≤ y → y < from + n → f y ≡ c) → sum_by f (range_with_len from n) ≡ n * c
sum_all f c from zero h = omega arith
sum_all f c from (suc n) h =
    let here : f from ≡ c = h from (omega arith) (omega arith) in
    let rest = sum_all f c (from + 1) n (λ y a b. h y (omega (arith, a)) (omega (arith, b))) in
    let first = sum_by-cons f from (range_with_len (from + 1) n) in
    omega (arith, here, rest, first)

sum_most : (f : ℕ → ℕ) (c from n : ℕ) → ((y : ℕ) → f y ≤ c) → sum_by f (range_with_len from n) ≤ n * c
sum_most f c from zero h = omega arith
sum_most f c from (suc n) h =
    let here : f from ≤ c = h from in
    let rest = sum_most f c (from + 1) n h in
    let first = sum_by-cons f from (range_with_len (from + 1) n) in
    omega (arith, here, rest, first)

pub sum_less : {X : Type 0} (f g : X → ℕ) (xs : List X) → ((x : X) → f x ≤ g x) → sum_by f xs ≤ sum_by g xs
sum_less f g [] h = omega arith
sum_less f g (x ∷ xs) h =
    let here : f x ≤ g x = h x in
    let rest = sum_less f g xs h in
    let first = sum_by-cons f x xs in
    let other = sum_by-cons g x xs in
    omega (arith, here, rest, first, other)

count_most : (p : ℕ → Bool) (from n : ℕ) → count_by p (range_with_len from n) ≤ n
count_most p from zero = omega arith
count_most p from (suc n) =
    let rest = count_most p (from + 1) n in
    let first = sum_by-cons (λ x. cond (p x) 1 0) from (range_with_len (from + 1) n) in
    one (p from) rest first
  where
    one : (t : Bool) → count_by p (range_with_len (from + 1) n) ≤ n
        → count_by p (range_with_len from (suc n)) ≡ cond t 1 0 + count_by p (range_with_len (from + 1) n) → count_by p (range_with_len from (suc n)) ≤ suc n
    one true rest first = omega (arith, rest, first)
    one false rest first = omega (arith, rest, first)

count_all : (p : ℕ → Bool) (from n : ℕ) → ((x : ℕ) → from ≤ x → x < from + n → p x ≡ true) → count_by p (range_with_len from n) ≡ n
count_all p from zero h = refl
count_all p from (suc n) h =
    let here : p from ≡ true = h from (omega arith) (omega arith) in
    let rest = count_all p (from + 1) n (λ x a b. h x (omega (arith, a)) (omega (arith, b))) in
    let first : count_by p (range_with_len from (suc n)) ≡ 1 + count_by p (range_with_len (from + 1) n) =
    sum_by-cons (λ x. cond (p x) 1 0) from (range_with_len (from + 1) n) ∙ ap (λ t. cond t 1 0 + count_by p (range_with_len (from + 1) n)) here in
    omega (arith, rest, first)

-- ---- edges as natural numbers
pub whole_is : (a : ℤ) → pos (whole a) ≡ int_max (pos 0) a
whole_is (pos n) = omega (arith, ints, clamps)
whole_is (negsuc n) = omega (arith, ints, clamps)

whole_less : (a b : ℤ) → a ≤ℤ b → whole a ≤ whole b
whole_less a b h = omega (arith, ints, clamps, whole_is a, whole_is b)

gap_least : (a b : ℤ) → whole b - whole a ≤ whole (b -ℤ a)
gap_least a b = omega (arith, ints, clamps, whole_is a, whole_is b, whole_is (b -ℤ a))

gap_is : (a n : ℤ) → pos 0 ≤ℤ a → whole (a +ℤ n) - whole a ≡ whole ((a +ℤ n) -ℤ a)
gap_is a n h = omega (arith, ints, clamps, whole_is a, whole_is (a +ℤ n), whole_is ((a +ℤ n) -ℤ a))

-- ---- points
pub points_most : (test : ℕ → ℕ → Bool) (b : Bounds) → points_in test b ≤ area_of b
unfolding points_in area_of
points_most test b =
    let rows = whole b.max_y - whole b.min_y in
    let columns = whole b.max_x - whole b.min_x in
    let few = sum_most (λ y. count_in (λ x. test x y) (whole b.min_x) (whole b.max_x)) columns (whole b.min_y) rows
    (λ y. count_most (λ x. test x y) (whole b.min_x) columns) in
    let across = gap_least b.min_x b.max_x in
    let down = gap_least b.min_y b.max_y in
    product rows columns (whole (b.max_x -ℤ b.min_x)) (whole (b.max_y -ℤ b.min_y)) _ few across down
  where
    product : (r c w h n : ℕ) → n ≤ r * c → c ≤ w → r ≤ h → n ≤ w * h
    product r c w h n few across down =
        let one = mul-le-mul_left r across in
        let two = mul-le-mul_right w down in
        omega (arith, few, one, two)

or_true : (a b : Bool) → (a || b) ≡ true → (a ≡ true) ⊎ (b ≡ true)
or_true true b h = inl refl
or_true false b h = inr h

le_tells : (a b : ℤ) → int_le a b ≡ true → a ≤ℤ b
le_tells a b h = grind (arith, ints)

pub points_none : (test : ℕ → ℕ → Bool) (b : Bounds) → is_empty b ≡ true → points_in test b ≡ 0
unfolding points_in
points_none test b h = elim (or_true (int_le b.max_x b.min_x) (int_le b.max_y b.min_y) h) [
  | inl e ↦ (let less = whole_less b.max_x b.min_x (le_tells b.max_x b.min_x e) in
      let none : whole b.max_x - whole b.min_x ≡ 0 = omega (arith, less) in
      sum_all (λ y. count_in (λ x. test x y) (whole b.min_x) (whole b.max_x)) 0 (whole b.min_y) (whole b.max_y - whole b.min_y)
      (λ y a l. ap (λ n. count_by (λ x. test x y) (range_with_len (whole b.min_x) n)) none) ∙ omega arith)
  | inr e ↦ (let less = whole_less b.max_y b.min_y (le_tells b.max_y b.min_y e) in
      let none : whole b.max_y - whole b.min_y ≡ 0 = omega (arith, less) in
      ap (λ n. sum_by (λ y. count_in (λ x. test x y) (whole b.min_x) (whole b.max_x)) (range_with_len (whole b.min_y) n)) none)
]

-- ---- a whole rectangle
span_here : (from size : ℤ) (at : ℕ) → pos 0 ≤ℤ from → whole from ≤ at → at < whole (from +ℤ size) → in_span from size at ≡ true
unfolding in_span
span_here from size at h a b =
    let one : from ≤ℤ pos at = omega (arith, ints, clamps, whole_is from) in
    let two : pos at <ℤ (from +ℤ size) = omega (arith, ints, clamps, whole_is (from +ℤ size)) in
    grind (arith, ints)

behind : (from to at : ℕ) → at < from + (to - from) → from ≤ at → at < to
behind from to at h a = omega (arith, h)

pub points_all : (r : Rect) → pos 0 ≤ℤ r.x → pos 0 ≤ℤ r.y → points_in (inside r) (bounds_of r) ≡ area_of (bounds_of r)
unfolding points_in area_of
points_all r left top =
    let b = bounds_of r in
    let columns = whole b.max_x - whole b.min_x in
    let rows = whole b.max_y - whole b.min_y in
    sum_all (λ y. count_in (λ x. inside r x y) (whole b.min_x) (whole b.max_x)) columns (whole b.min_y) rows
    (λ y c d. count_all (λ x. inside r x y) (whole b.min_x) columns
    (λ x e f. (let across = span_here r.x r.w x left e (behind (whole b.min_x) (whole b.max_x) x f e) in
    let down = span_here r.y r.h y top c (behind (whole b.min_y) (whole b.max_y) y d c) in rw (across, down) refl)))
    ∙ (let across = gap_is r.x r.w left in let down = gap_is r.y r.h top in rw (across, down) (turn (whole ((r.y +ℤ r.h) -ℤ r.y)) (whole ((r.x +ℤ r.w) -ℤ r.x))))
  where
    turn : (a b : ℕ) → a * b ≡ b * a
    turn a b = omega arith

max_same : (a : ℤ) → int_max a a ≡ a
max_same a = omega (arith, ints, clamps)

min_same : (a : ℤ) → int_min a a ≡ a
min_same a = omega (arith, ints, clamps)

pub meet_same : (b : Bounds) → meet b b ≡ b
meet_same b = rw (max_same b.min_x, max_same b.min_y, min_same b.max_x, min_same b.max_y) refl

-- ---- the bound
pub writes_most : (entries : List Entry) (r : Rect) → writes entries r ≤ most_writes entries r
writes_most entries r =
    let few = sum_less (points_of (bounds_of r)) (λ s. area_of (meet (bounds_of r) (bounds s))) (shapes_of entries)
    (λ (s : Shape). points_most (holds s) (meet (bounds_of r) (bounds s))) in
    omega (arith, few)
