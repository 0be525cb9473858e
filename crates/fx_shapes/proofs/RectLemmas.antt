-- Rectangles and lengths on sides are made of their numbers.
use Rattle.std.proofs.Common.{◌≡◌, ℤ, ap, ◌∙◌, arith}
use Rattle.std.proofs.lemmas.Int.{ints}
use Rattle.fx_base.specs.declared.geometry.Rect.{Rect}
use Rattle.fx_base.specs.declared.geometry.Sides.{Sides}
use Rattle.fx_insets.specs.Insets.{insets_of}
use Rattle.fx_look.specs.declared.looks.Look.{Look}
use Rattle.fx_shapes.specs.Rects.{AreLimited}

pub rect_made : (a b : Rect) → a.x ≡ b.x → a.y ≡ b.y → a.w ≡ b.w → a.h ≡ b.h → a ≡ b
rect_made a b x_is y_is w_is h_is =
    let make : ℤ → ℤ → ℤ → ℤ → Rect = λ x y w h. record { x = x; y = y; w = w; h = h } in
    ap (λ x. make x a.y a.w a.h) x_is
    ∙ (ap (λ y. make b.x y a.w a.h) y_is
    ∙ (ap (λ w. make b.x b.y w a.h) w_is
    ∙ ap (λ h. make b.x b.y b.w h) h_is))

pub sides_made : (a b : Sides) → a.top ≡ b.top → a.right ≡ b.right → a.bottom ≡ b.bottom → a.left ≡ b.left → a ≡ b
sides_made a b t_is r_is b_is l_is =
    let make : ℤ → ℤ → ℤ → ℤ → Sides = λ t r o l. record { top = t; right = r; bottom = o; left = l } in
    ap (λ t. make t a.right a.bottom a.left) t_is
    ∙ (ap (λ r. make b.top r a.bottom a.left) r_is
    ∙ (ap (λ o. make b.top b.right o a.left) b_is
    ∙ ap (λ l. make b.top b.right b.bottom l) l_is))

-- the insets of a look are lengths
pub insets_limited : (look : Look) → AreLimited (insets_of look)
insets_limited look = record {
  least_top = omega (arith, ints);
  most_top = omega (arith, ints);
  least_right = omega (arith, ints);
  most_right = omega (arith, ints);
  least_bottom = omega (arith, ints);
  most_bottom = omega (arith, ints);
  least_left = omega (arith, ints);
  most_left = omega (arith, ints);
}
