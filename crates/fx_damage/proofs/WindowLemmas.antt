-- Boxes that were cut to a window lie in it, and so does their bounding box.
use Rattle.std.proofs.Common.{◌≡◌, ◌<◌, ◌<ℤ◌, ◌^◌, ℕ, ℤ, pos, Bool, true, false, ◌||◌, not, cond, List, [], ◌∷◌, All, refl, ap, ◌∙◌, arith}
use Rattle.std.specs.Prelude.{int_le}
use Rattle.std.specs.Int.{int_max, int_min}
use Rattle.std.proofs.lemmas.Int.{ints, clamps}
use Rattle.std.proofs.lemmas.List.Elements.{All-nil, All-cons}
use Rattle.fx_base.specs.declared.geometry.Rect.{Rect}
use Rattle.fx_picture.specs.declared.edges.Bounds.{Bounds}
use Rattle.fx_picture.specs.Bounds.{hull, is_empty, join, meet}
use Rattle.fx_damage.specs.Damage.{cut_to, window}
use Rattle.fx_damage.specs.Windows.{IsInWindow}

pub rect_made : (a b : Rect) → a.x ≡ b.x → a.y ≡ b.y → a.w ≡ b.w → a.h ≡ b.h → a ≡ b
rect_made a b x_is y_is w_is h_is =
    let make : ℤ → ℤ → ℤ → ℤ → Rect = λ x y w h. record { x = x; y = y; w = w; h = h } in
    ap (λ x. make x a.y a.w a.h) x_is
    ∙ (ap (λ y. make b.x y a.w a.h) y_is
    ∙ (ap (λ w. make b.x b.y w a.h) w_is
    ∙ ap (λ h. make b.x b.y b.w h) h_is))

hull_in : (a b : Bounds) → IsInWindow a → IsInWindow b → IsInWindow (hull a b)
hull_in a b p q =
    let p1 = p.left in let p2 = p.top in let p3 = p.across in let p4 = p.down in let p5 = p.right in let p6 = p.bottom in
    let q1 = q.left in let q2 = q.top in let q3 = q.across in let q4 = q.down in let q5 = q.right in let q6 = q.bottom in
    record {
      left = omega (arith, ints, clamps);
      top = omega (arith, ints, clamps);
      across = omega (arith, ints, clamps);
      down = omega (arith, ints, clamps);
      right = omega (arith, ints, clamps);
      bottom = omega (arith, ints, clamps);
    }

join_by : (a b : Bounds) (some more : Bool) → IsInWindow a → IsInWindow b → IsInWindow (cond some b (cond more a (hull a b)))
join_by a b true more p q = q
join_by a b false true p q = p
join_by a b false false p q = hull_in a b p q

pub join_in : (a b : Bounds) → IsInWindow a → IsInWindow b → IsInWindow (join a b)
join_in a b p q = join_by a b (is_empty a) (is_empty b) p q

or_false : (a b : Bool) → (a || b) ≡ false → (a ≡ false) × (b ≡ false)
or_false true b h = cc
or_false false b h = (refl, h)

rises : (a b : ℤ) → int_le a b ≡ false → b <ℤ a
rises a b h = grind (arith, ints)

meet_in : (w h : ℕ) (b : Bounds) → w < 2 ^ 32 → h < 2 ^ 32 → is_empty (meet (window w h) b) ≡ false → IsInWindow (meet (window w h) b)
meet_in w h b p q e =
    let m = meet (window w h) b in
    let parts = or_false (int_le m.max_x m.min_x) (int_le m.max_y m.min_y) e in
    let across : int_max (pos 0) b.min_x <ℤ int_min (pos w) b.max_x = rises (int_min (pos w) b.max_x) (int_max (pos 0) b.min_x) parts.0 in
    let down : int_max (pos 0) b.min_y <ℤ int_min (pos h) b.max_y = rises (int_min (pos h) b.max_y) (int_max (pos 0) b.min_y) parts.1 in
    record {
      left = omega (arith, ints, clamps);
      top = omega (arith, ints, clamps);
      across = omega (arith, ints, clamps);
      down = omega (arith, ints, clamps);
      right = omega (arith, ints, clamps);
      bottom = omega (arith, ints, clamps);
    }

pub cut_in : (w h : ℕ) (bs : List Bounds) → w < 2 ^ 32 → h < 2 ^ 32 → All IsInWindow (cut_to (window w h) bs)
cut_in w h [] p q = All-nil IsInWindow
cut_in w h (b ∷ bs) p q = cut (is_empty (meet (window w h) b)) refl (cut_in w h bs p q)
  where
    cut : (t : Bool) → is_empty (meet (window w h) b) ≡ t → All IsInWindow (cut_to (window w h) bs)
        → All IsInWindow (cond (not t) (meet (window w h) b ∷ cut_to (window w h) bs) (cut_to (window w h) bs))
    cut true e rest = rest
    cut false e rest = All-cons IsInWindow (meet (window w h) b) (cut_to (window w h) bs) (meet_in w h b p q e) rest
