-- Boxes that were cut to a window lie in it, and so does their bounding box.
use Rattle.std.proofs.Common.{refl, ap, ◌∙◌, ◌≡◌, ◌≤ℤ◌, ◌+ℤ◌, ◌-ℤ◌, ℕ, ℤ, pos, Bool, true, false, ◌&&◌, not, cond, nat_lt, length, map, fold, List, [], ◌∷◌, Option, None, Some, arith}
use Rattle.std.specs.Prelude.{int_le}
use Rattle.std.specs.List.{list_all}
use Rattle.std.proofs.lemmas.Bool.{and_from}
use Rattle.std.proofs.lemmas.Int.{ints, clamps}
use Rattle.fx_picture.specs.declared.edges.Bounds.{Bounds}
use Rattle.fx_picture.specs.Bounds.{hull, hull_of, is_empty, join, meet, nowhere, rect_of}
use Rattle.fx_picture.specs.declared.entries.Entry.{Entry}
use Rattle.fx_damage.specs.Damage.{at_most_sixteen, changed_boxes, cut_to, damage, window}
use Rattle.fx_canvas.specs.Surfaces.{lies_in}

pub record Lies (w h : ℕ) (b : Bounds) : Type 0 where
  pub left : pos 0 ≤ℤ b.min_x
  pub top : pos 0 ≤ℤ b.min_y
  pub right : b.max_x ≤ℤ pos w
  pub bottom : b.max_y ≤ℤ pos h

le_true : (a b : ℤ) → a ≤ℤ b → int_le a b ≡ true
le_true a b h = grind (arith, ints)

across : (low high : ℤ) → low +ℤ (high -ℤ low) ≡ high
across low high = omega (arith, ints)

lies_by : (w h : ℕ) (b : Bounds) → Lies w h b → lies_in w h (rect_of b) ≡ true
lies_by w h b l =
    and_from (int_le (pos 0) b.min_x && int_le (pos 0) b.min_y)
    (int_le (b.min_x +ℤ (b.max_x -ℤ b.min_x)) (pos w) && int_le (b.min_y +ℤ (b.max_y -ℤ b.min_y)) (pos h))
    (and_from (int_le (pos 0) b.min_x) (int_le (pos 0) b.min_y) (le_true (pos 0) b.min_x l.left) (le_true (pos 0) b.min_y l.top))
    (and_from (int_le (b.min_x +ℤ (b.max_x -ℤ b.min_x)) (pos w)) (int_le (b.min_y +ℤ (b.max_y -ℤ b.min_y)) (pos h))
    (ap (λ n. int_le n (pos w)) (across b.min_x b.max_x) ∙ le_true b.max_x (pos w) l.right)
    (ap (λ n. int_le n (pos h)) (across b.min_y b.max_y) ∙ le_true b.max_y (pos h) l.bottom))

hull_lies : (w h : ℕ) (a b : Bounds) → Lies w h a → Lies w h b → Lies w h (hull a b)
hull_lies w h a b p q =
    let p1 = p.left in let p2 = p.top in let p3 = p.right in let p4 = p.bottom in
    let q1 = q.left in let q2 = q.top in let q3 = q.right in let q4 = q.bottom in
    record {
      left = omega (arith, ints, clamps);
      top = omega (arith, ints, clamps);
      right = omega (arith, ints, clamps);
      bottom = omega (arith, ints, clamps);
    }

join_by : (w h : ℕ) (a b : Bounds) (some more : Bool) → Lies w h a → Lies w h b
    → Lies w h (cond some b (cond more a (hull a b)))
join_by w h a b true more p q = q
join_by w h a b false true p q = p
join_by w h a b false false p q = hull_lies w h a b p q

meet_lies : (w h : ℕ) (b : Bounds) → Lies w h (meet (window w h) b)
meet_lies w h b = record {
  left = omega (arith, ints, clamps);
  top = omega (arith, ints, clamps);
  right = omega (arith, ints, clamps);
  bottom = omega (arith, ints, clamps);
}

nowhere_lies : (w h : ℕ) → Lies w h nowhere
nowhere_lies w h = record {
  left = omega (arith, ints);
  top = omega (arith, ints);
  right = omega (arith, ints);
  bottom = omega (arith, ints);
}

-- boxes of which each lies in the window
pub data AllLie (w h : ℕ) : List Bounds → Type 0 where
  none : AllLie w h []
  more : (b : Bounds) (bs : List Bounds) → Lies w h b → AllLie w h bs → AllLie w h (b ∷ bs)

hull_all : (w h : ℕ) (bs : List Bounds) (so_far : Bounds) → Lies w h so_far → AllLie w h bs
    → Lies w h (fold join so_far bs)
hull_all w h [] so_far l none = l
hull_all w h (b ∷ bs) so_far l (more _ _ m rest) =
    hull_all w h bs (join so_far b) (join_by w h so_far b (is_empty so_far) (is_empty b) l m) rest

cut_lies : (w h : ℕ) (bs : List Bounds) → AllLie w h (cut_to (window w h) bs)
cut_lies w h [] = none
cut_lies w h (b ∷ bs) = kept (not (is_empty (meet (window w h) b))) (cut_lies w h bs)
  where
    kept : (t : Bool) → AllLie w h (cut_to (window w h) bs)
        → AllLie w h (cond t (meet (window w h) b ∷ cut_to (window w h) bs) (cut_to (window w h) bs))
    kept true rest = more (meet (window w h) b) (cut_to (window w h) bs) (meet_lies w h b) rest
    kept false rest = rest

few_lie : (w h : ℕ) (bs : List Bounds) → AllLie w h bs → AllLie w h (at_most_sixteen bs)
few_lie w h bs all = few (nat_lt 16 (length bs))
  where
    few : (t : Bool) → AllLie w h (cond t (hull_of bs ∷ []) bs)
    few true = more (hull_of bs) [] (hull_all w h bs nowhere (nowhere_lies w h) all) none
    few false = all

rects_lie : (w h : ℕ) (bs : List Bounds) → AllLie w h bs → list_all (lies_in w h) (map rect_of bs) ≡ true
rects_lie w h [] none = refl
rects_lie w h (b ∷ bs) (more _ _ l rest) =
    and_from (lies_in w h (rect_of b)) (list_all (lies_in w h) (map rect_of bs)) (lies_by w h b l) (rects_lie w h bs rest)

window_lies : (w h : ℕ) → Lies w h (window w h)
window_lies w h = record {
  left = omega (arith, ints);
  top = omega (arith, ints);
  right = omega (arith, ints);
  bottom = omega (arith, ints);
}

pub lying : (olds : Option (List Entry)) (nows : List Entry) (w h : ℕ) → list_all (lies_in w h) (damage olds nows w h) ≡ true
lying None nows w h = rects_lie w h (window w h ∷ []) (more (window w h) [] (window_lies w h) none)
lying (Some olds) nows w h =
    rects_lie w h (at_most_sixteen (cut_to (window w h) (changed_boxes olds nows)))
    (few_lie w h (cut_to (window w h) (changed_boxes olds nows)) (cut_lies w h (changed_boxes olds nows)))
