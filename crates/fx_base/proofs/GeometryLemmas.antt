-- Field by field comparison of four signed numbers decides equality.
use Rattle.std.proofs.Common.{◌≡◌, ◌&&◌, ap, ◌∙◌, ℤ, int_eq}
use Rattle.std.specs.Bool.{Decides}
use Rattle.std.proofs.lemmas.Bool.Decides.{Decides-int_eq, Decides-and, Decides-like}
use Rattle.fx_base.specs.declared.geometry.Sides.{Sides}

abbrev FourEqual : Sides → Sides → Type 0
FourEqual a b = (a.top ≡ b.top) × ((a.right ≡ b.right) × ((a.bottom ≡ b.bottom) × (a.left ≡ b.left)))

sides_from_four : (a b : Sides) → FourEqual a b → a ≡ b
sides_from_four a b e =
    let make : ℤ → ℤ → ℤ → ℤ → Sides = λ t r o l. record { top = t; right = r; bottom = o; left = l } in
    ap (λ t. make t a.right a.bottom a.left) e.0
    ∙ (ap (λ r. make b.top r a.bottom a.left) e.1.0
    ∙ (ap (λ o. make b.top b.right o a.left) e.1.1.0
    ∙ ap (λ l. make b.top b.right b.bottom l) e.1.1.1))

four_from_sides : (a b : Sides) → a ≡ b → FourEqual a b
four_from_sides a b e = (ap (λ (s : Sides). s.top) e, (ap (λ (s : Sides). s.right) e, (ap (λ (s : Sides). s.bottom) e, ap (λ (s : Sides). s.left) e)))

pub Decides-sides : (a b : Sides) → Decides (int_eq a.top b.top && (int_eq a.right b.right && (int_eq a.bottom b.bottom && int_eq a.left b.left))) (a ≡ b)
Decides-sides a b =
    Decides-like _ (sides_from_four a b) (four_from_sides a b)
    (Decides-and _ _ (Decides-int_eq a.top b.top)
    (Decides-and _ _ (Decides-int_eq a.right b.right)
    (Decides-and _ _ (Decides-int_eq a.bottom b.bottom) (Decides-int_eq a.left b.left))))
