-- Points within bounds, within what two have in common, and within what is around both.
use Rattle.std.proofs.Common.{◌≡◌, ◌≤ℤ◌, ◌<ℤ◌, ◌+ℤ◌, ◌-ℤ◌, ℕ, ℤ, pos, Bool, true, false, ◌&&◌, ◌||◌, cond, List, [], ◌∷◌, fold, refl, ap, arith}
use Rattle.std.specs.Prelude.{int_le, int_lt}
use Rattle.std.specs.Int.{int_max, int_min}
use Rattle.std.specs.List.{list_any}
use Rattle.std.proofs.lemmas.Int.{ints, clamps}
use Rattle.fx_base.specs.Rectangle.{in_span, inside}
use Rattle.fx_picture.specs.declared.edges.Bounds.{Bounds}
use Rattle.fx_picture.specs.Bounds.{in_range, within, is_empty, meet, hull, join, rect_of, hull_of, nowhere}

-- ---- one axis
pub record InRange (low high : ℤ) (at : ℕ) : Type 0 where
  pub from : low ≤ℤ pos at
  pub to : pos at <ℤ high

in_range_tells : (low high : ℤ) (at : ℕ) → in_range low high at ≡ true → InRange low high at
unfolding in_range
in_range_tells low high at h = record { from = grind (arith, ints); to = grind (arith, ints) }

in_range_from : (low high : ℤ) (at : ℕ) → InRange low high at → in_range low high at ≡ true
unfolding in_range
in_range_from low high at h =
    let a : low ≤ℤ pos at = h.from in
    let b : pos at <ℤ high = h.to in
    grind (arith, ints)

range-meet : (a b c d : ℤ) (at : ℕ) → InRange a b at → InRange c d at → InRange (int_max a c) (int_min b d) at
range-meet a b c d at p q =
    let p1 = p.from in let p2 = p.to in let q1 = q.from in let q2 = q.to in
    record { from = omega (arith, ints, clamps); to = omega (arith, ints, clamps) }

range-hull_left : (a b c d : ℤ) (at : ℕ) → InRange a b at → InRange (int_min a c) (int_max b d) at
range-hull_left a b c d at p =
    let p1 = p.from in let p2 = p.to in
    record { from = omega (arith, ints, clamps); to = omega (arith, ints, clamps) }

range-hull_right : (a b c d : ℤ) (at : ℕ) → InRange c d at → InRange (int_min a c) (int_max b d) at
range-hull_right a b c d at q =
    let q1 = q.from in let q2 = q.to in
    record { from = omega (arith, ints, clamps); to = omega (arith, ints, clamps) }

range-some : (low high : ℤ) (at : ℕ) → InRange low high at → int_le high low ≡ false
range-some low high at p =
    let p1 = p.from in let p2 = p.to in
    let more : low <ℤ high = omega (arith, ints) in grind (arith, ints)

-- ---- both
pub both_true : (a b : Bool) → (a && b) ≡ true → (a ≡ true) × (b ≡ true)
both_true true b h = (refl, h)
both_true false b h = cc

pub record Within (b : Bounds) (x y : ℕ) : Type 0 where
  pub across : InRange b.min_x b.max_x x
  pub down : InRange b.min_y b.max_y y

pub within_tells : (b : Bounds) (x y : ℕ) → within b x y ≡ true → Within b x y
within_tells b x y h =
    let parts = both_true (in_range b.min_x b.max_x x) (in_range b.min_y b.max_y y) h in
    record { across = in_range_tells b.min_x b.max_x x parts.0; down = in_range_tells b.min_y b.max_y y parts.1 }

pub within_from : (b : Bounds) (x y : ℕ) → Within b x y → within b x y ≡ true
within_from b x y p =
    let a = in_range_from b.min_x b.max_x x p.across in
    let d = in_range_from b.min_y b.max_y y p.down in
    rw (a, d) refl

pub within-some : (b : Bounds) (x y : ℕ) → Within b x y → is_empty b ≡ false
within-some b x y p =
    let a = range-some b.min_x b.max_x x p.across in
    let d = range-some b.min_y b.max_y y p.down in
    rw (a, d) refl

pub within-meet : (a b : Bounds) (x y : ℕ) → Within a x y → Within b x y → Within (meet a b) x y
within-meet a b x y p q = record {
  across = range-meet a.min_x a.max_x b.min_x b.max_x x p.across q.across;
  down = range-meet a.min_y a.max_y b.min_y b.max_y y p.down q.down;
}

within-hull_left : (a b : Bounds) (x y : ℕ) → Within a x y → Within (hull a b) x y
within-hull_left a b x y p = record {
  across = range-hull_left a.min_x a.max_x b.min_x b.max_x x p.across;
  down = range-hull_left a.min_y a.max_y b.min_y b.max_y y p.down;
}

within-hull_right : (a b : Bounds) (x y : ℕ) → Within b x y → Within (hull a b) x y
within-hull_right a b x y p = record {
  across = range-hull_right a.min_x a.max_x b.min_x b.max_x x p.across;
  down = range-hull_right a.min_y a.max_y b.min_y b.max_y y p.down;
}

join_left : (a b : Bounds) (x y : ℕ) (some more : Bool) → is_empty a ≡ some → is_empty b ≡ more → Within a x y
    → within (cond some b (cond more a (hull a b))) x y ≡ true
join_left a b x y true more e f p = let n = within-some a x y p in cc
join_left a b x y false true e f p = within_from a x y p
join_left a b x y false false e f p = within_from (hull a b) x y (within-hull_left a b x y p)

pub within-join_left : (a b : Bounds) (x y : ℕ) → within a x y ≡ true → within (join a b) x y ≡ true
within-join_left a b x y h = join_left a b x y (is_empty a) (is_empty b) refl refl (within_tells a x y h)

join_right : (a b : Bounds) (x y : ℕ) (some more : Bool) → is_empty a ≡ some → is_empty b ≡ more → Within b x y
    → within (cond some b (cond more a (hull a b))) x y ≡ true
join_right a b x y true more e f p = within_from b x y p
join_right a b x y false true e f p = let n = within-some b x y p in cc
join_right a b x y false false e f p = within_from (hull a b) x y (within-hull_right a b x y p)

pub within-join_right : (a b : Bounds) (x y : ℕ) → within b x y ≡ true → within (join a b) x y ≡ true
within-join_right a b x y h = join_right a b x y (is_empty a) (is_empty b) refl refl (within_tells b x y h)

-- ---- all of a list
within-fold : (all : List Bounds) (box : Bounds) (x y : ℕ) → within box x y ≡ true → within (fold join box all) x y ≡ true
within-fold [] box x y h = h
within-fold (b ∷ bs) box x y h = within-fold bs (join box b) x y (within-join_left box b x y h)

fold_head : (b : Bounds) (bs : List Bounds) (box : Bounds) (x y : ℕ) (t : Bool) → within b x y ≡ t
    → (list_any (λ c. within c x y) bs ≡ true → within (fold join (join box b) bs) x y ≡ true)
    → (t || list_any (λ c. within c x y) bs) ≡ true → within (fold join (join box b) bs) x y ≡ true
fold_head b bs box x y true e rest h = within-fold bs (join box b) x y (within-join_right box b x y e)
fold_head b bs box x y false e rest h = rest h

any-fold : (all : List Bounds) (box : Bounds) (x y : ℕ) → list_any (λ b. within b x y) all ≡ true → within (fold join box all) x y ≡ true
any-fold [] box x y h = cc
any-fold (b ∷ bs) box x y h = fold_head b bs box x y (within b x y) refl (λ r. any-fold bs (join box b) x y r) h

pub within-hull_of : (all : List Bounds) (x y : ℕ) → list_any (λ b. within b x y) all ≡ true → within (hull_of all) x y ≡ true
within-hull_of all x y h = any-fold all nowhere x y h

-- ---- rectangles
span_of : (low high : ℤ) (at : ℕ) → in_span low (high -ℤ low) at ≡ in_range low high at
unfolding in_span in_range
span_of low high at =
    let e : low +ℤ (high -ℤ low) ≡ high = omega (arith, ints) in
    ap (λ n. int_le low (pos at) && int_lt (pos at) n) e

pub inside-rect_of : (b : Bounds) (x y : ℕ) → inside (rect_of b) x y ≡ within b x y
inside-rect_of b x y = rw (span_of b.min_x b.max_x x, span_of b.min_y b.max_y y) refl
