-- The rectangles of a damage have at least one pixel, all within the window, and there are few of them.
use Rattle.std.proofs.Common.{◌≡◌, ◌≤◌, ◌≤ℤ◌, ◌<ℤ◌, ◌+◌, ◌-ℤ◌, ℕ, ℤ, pos, negsuc, suc, Bool, true, false, ◌||◌, cond, fold, List, [], ◌∷◌, length, map, not, All, refl, arith}
use Rattle.std.specs.Prelude.{int_le, nat_lt}
use Rattle.std.proofs.lemmas.Bool.{true≢false}
use Rattle.std.proofs.lemmas.Bool.Decides.{nat_tests}
use Rattle.std.proofs.lemmas.Int.{ints, clamps}
use Rattle.std.proofs.lemmas.List.{length-map}
use Rattle.std.proofs.lemmas.List.Elements.{All-cons, All-head, All-nil, All-tail}
use Rattle.fx_picture.specs.Bounds.{hull, hull_of, is_empty, join, meet, rect_of}
use Rattle.fx_picture.specs.Shapes.{whole}
use Rattle.fx_picture.specs.declared.edges.Bounds.{Bounds}
use Rattle.fx_damage.specs.Damage.{at_most_sixteen, cut_to, window}
use Rattle.fx_delta_runs.proofs.DamageLemmas.{Lies}

-- bounds of a window, with at least one pixel
record Stands (width height : ℕ) (b : Bounds) : Type 0 where
  left : pos 0 ≤ℤ b.min_x
  top : pos 0 ≤ℤ b.min_y
  right : b.max_x ≤ℤ pos width
  bottom : b.max_y ≤ℤ pos height
  across : b.min_x <ℤ b.max_x
  down : b.min_y <ℤ b.max_y

-- ---- from edges to a rectangle
whole_is : (z : ℤ) → pos 0 ≤ℤ z → z ≡ pos (whole z)
whole_is (pos n) h = refl
whole_is (negsuc n) h = absurd (omega (arith, ints, h))

side : (low high : ℤ) (from size length : ℕ) → low ≡ pos from → (high -ℤ low) ≡ pos size → low <ℤ high
    → high ≤ℤ pos length → (from + size ≤ length) × (1 ≤ size)
side low high from size length e f some within = (omega (arith, ints, e, f, within), omega (arith, ints, e, f, some))

no_less : (low high : ℤ) → low <ℤ high → pos 0 ≤ℤ (high -ℤ low)
no_less low high h = omega (arith, ints, h)

lies : (width height : ℕ) (b : Bounds) → Stands width height b → Lies width height (rect_of b)
lies width height b s =
    let left : b.min_x ≡ pos (whole b.min_x) = whole_is b.min_x s.left in
    let top : b.min_y ≡ pos (whole b.min_y) = whole_is b.min_y s.top in
    let wide : (b.max_x -ℤ b.min_x) ≡ pos (whole (b.max_x -ℤ b.min_x)) =
    whole_is (b.max_x -ℤ b.min_x) (no_less b.min_x b.max_x s.across) in
    let high : (b.max_y -ℤ b.min_y) ≡ pos (whole (b.max_y -ℤ b.min_y)) =
    whole_is (b.max_y -ℤ b.min_y) (no_less b.min_y b.max_y s.down) in
    let across = side b.min_x b.max_x (whole b.min_x) (whole (b.max_x -ℤ b.min_x)) width left wide s.across s.right in
    let down = side b.min_y b.max_y (whole b.min_y) (whole (b.max_y -ℤ b.min_y)) height top high s.down s.bottom in
    record {
      left = left;
      top = top;
      wide = wide;
      high = high;
      across = across.0;
      down = down.0;
      columns = across.1;
      rows = down.1;
    }

-- ---- boxes that are cut to a window
some_axis : (low high : ℤ) → int_le high low ≡ false → low <ℤ high
some_axis low high e = grind (arith, ints)

or_none : (a b : Bool) → (a || b) ≡ false → (a ≡ false) × (b ≡ false)
or_none true b e = absurd (true≢false e)
or_none false b e = (refl, e)

cut_stands : (width height : ℕ) (b : Bounds) → is_empty (meet (window width height) b) ≡ false
    → Stands width height (meet (window width height) b)
cut_stands width height b some =
    let cut : Bounds = meet (window width height) b in
    let both = or_none (int_le cut.max_x cut.min_x) (int_le cut.max_y cut.min_y) some in
    record {
      left = omega (arith, ints, clamps);
      top = omega (arith, ints, clamps);
      right = omega (arith, ints, clamps);
      bottom = omega (arith, ints, clamps);
      across = some_axis cut.min_x cut.max_x both.0;
      down = some_axis cut.min_y cut.max_y both.1;
    }

all_cut : (width height : ℕ) (bs : List Bounds) → All (Stands width height) (cut_to (window width height) bs)
all_cut width height [] = All-nil (Stands width height)
all_cut width height (b ∷ bs) = kept (is_empty (meet (window width height) b)) refl (all_cut width height bs)
  where
    kept : (t : Bool) → is_empty (meet (window width height) b) ≡ t
        → All (Stands width height) (cut_to (window width height) bs)
        → All (Stands width height)
        (cond (not t) (meet (window width height) b ∷ cut_to (window width height) bs)
        (cut_to (window width height) bs))
    kept true e rest = rest
    kept false e rest =
        All-cons (Stands width height) (meet (window width height) b) (cut_to (window width height) bs)
        (cut_stands width height b e) rest

hull_stands : (width height : ℕ) (a b : Bounds) → Stands width height a → Stands width height b
    → Stands width height (hull a b)
hull_stands width height a b p q =
    let p1 = p.left in let p2 = p.top in let p3 = p.right in let p4 = p.bottom in let p5 = p.across in
    let p6 = p.down in
    let q1 = q.left in let q2 = q.top in let q3 = q.right in let q4 = q.bottom in let q5 = q.across in
    let q6 = q.down in
    record {
      left = omega (arith, ints, clamps);
      top = omega (arith, ints, clamps);
      right = omega (arith, ints, clamps);
      bottom = omega (arith, ints, clamps);
      across = omega (arith, ints, clamps);
      down = omega (arith, ints, clamps);
    }

join_stands : (width height : ℕ) (a b : Bounds) (some more : Bool) → Stands width height a → Stands width height b
    → Stands width height (cond some b (cond more a (hull a b)))
join_stands width height a b true more p q = q
join_stands width height a b false true p q = p
join_stands width height a b false false p q = hull_stands width height a b p q

hull_all : (width height : ℕ) (bs : List Bounds) (so_far : Bounds) → Stands width height so_far
    → All (Stands width height) bs → Stands width height (fold join so_far bs)
hull_all width height [] so_far s all = s
hull_all width height (b ∷ bs) so_far s all =
    hull_all width height bs (join so_far b)
    (join_stands width height so_far b (is_empty so_far) (is_empty b) s (All-head (Stands width height) b bs all))
    (All-tail (Stands width height) b bs all)

few_stand : (width height : ℕ) (bs : List Bounds) → All (Stands width height) bs
    → All (Stands width height) (at_most_sixteen bs)
few_stand width height [] all = all
few_stand width height (b ∷ bs) all = few (nat_lt 16 (suc (length bs)))
  where
    few : (t : Bool) → All (Stands width height) (cond t (hull_of (b ∷ bs) ∷ []) (b ∷ bs))
    few true =
        All-cons (Stands width height) (hull_of (b ∷ bs)) []
        (hull_all width height bs b (All-head (Stands width height) b bs all)
        (All-tail (Stands width height) b bs all))
        (All-nil (Stands width height))
    few false = all

all_lie : (width height : ℕ) (bs : List Bounds) → All (Stands width height) bs
    → All (Lies width height) (map rect_of bs)
all_lie width height [] all = All-nil (Lies width height)
all_lie width height (b ∷ bs) all =
    All-cons (Lies width height) (rect_of b) (map rect_of bs)
    (lies width height b (All-head (Stands width height) b bs all))
    (all_lie width height bs (All-tail (Stands width height) b bs all))

-- the rectangles of boxes that are cut and joined
pub boxes_lie : (width height : ℕ) (bs : List Bounds)
    → All (Lies width height) (map rect_of (at_most_sixteen (cut_to (window width height) bs)))
boxes_lie width height bs =
    all_lie width height (at_most_sixteen (cut_to (window width height) bs))
    (few_stand width height (cut_to (window width height) bs) (all_cut width height bs))

-- the whole window
pub window_lies : (width height : ℕ) → 1 ≤ width → 1 ≤ height
    → All (Lies width height) (map rect_of (window width height ∷ []))
window_lies width height wide high =
    all_lie width height (window width height ∷ [])
    (All-cons (Stands width height) (window width height) []
    (record {
      left = omega (arith, ints);
      top = omega (arith, ints);
      right = omega (arith, ints);
      bottom = omega (arith, ints);
      across = omega (arith, ints, wide);
      down = omega (arith, ints, high);
    })
    (All-nil (Stands width height)))

-- at most sixteen
pub few : (bs : List Bounds) → length (map rect_of (at_most_sixteen bs)) ≤ 16
few bs = by (nat_lt 16 (length bs)) refl
  where
    by : (t : Bool) → nat_lt 16 (length bs) ≡ t → length (map rect_of (cond t (hull_of bs ∷ []) bs)) ≤ 16
    by true e = omega arith
    by false e =
        let same : length (map rect_of bs) ≡ length bs = length-map bs rect_of in
        let most : length bs ≤ 16 = no_more (length bs) e in
        omega (arith, same, most)
      where
        no_more : (n : ℕ) → nat_lt 16 n ≡ false → n ≤ 16
        no_more n e = grind (arith, nat_tests)
