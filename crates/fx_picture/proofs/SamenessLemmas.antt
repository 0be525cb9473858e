-- The tests of sameness decide equality.
use Rattle.std.proofs.Common.{◌≡◌, ap, refl, ◌∙◌, ℕ, ℤ, List}
use Rattle.std.specs.Bool.{Decides}
use Rattle.std.specs.Cmp.Lexicographic.{pointwise}
use Rattle.std.proofs.lemmas.Bool.Decides.{Decides-int_eq, Decides-eqb, Decides-and, Decides-like}
use Rattle.std.proofs.lemmas.Slice.Eq.{slice_eq-Decides}
use Rattle.fx_base.specs.declared.color.Color.{Color}
use Rattle.fx_base.specs.declared.geometry.Rect.{Rect}
use Rattle.fx_picture.specs.declared.shapes.Shape.{Shape}
use Rattle.fx_picture.specs.declared.shapes.Shape.TheVariants.{Fill, Letters}
use Rattle.fx_picture.specs.Sameness.{is_same_rect, is_same_color, is_same_place, is_same_text, is_same_shape}

-- ---- rectangles and colours
abbrev FourEqual : Rect → Rect → Type 0
FourEqual a b = (a.x ≡ b.x) × ((a.y ≡ b.y) × ((a.w ≡ b.w) × (a.h ≡ b.h)))

rect_from_four : (a b : Rect) → FourEqual a b → a ≡ b
rect_from_four a b e =
    let make : ℤ → ℤ → ℤ → ℤ → Rect = λ x y w h. record { x = x; y = y; w = w; h = h } in
    ap (λ x. make x a.y a.w a.h) e.0
    ∙ (ap (λ y. make b.x y a.w a.h) e.1.0
    ∙ (ap (λ w. make b.x b.y w a.h) e.1.1.0
    ∙ ap (λ h. make b.x b.y b.w h) e.1.1.1))

four_from_rect : (a b : Rect) → a ≡ b → FourEqual a b
four_from_rect a b e = (ap (λ (r : Rect). r.x) e, (ap (λ (r : Rect). r.y) e, (ap (λ (r : Rect). r.w) e, ap (λ (r : Rect). r.h) e)))

pub Decides-rect : (a b : Rect) → Decides (is_same_rect a b) (a ≡ b)
Decides-rect a b =
    Decides-like _ (rect_from_four a b) (four_from_rect a b)
    (Decides-and _ _ (Decides-int_eq a.x b.x)
    (Decides-and _ _ (Decides-int_eq a.y b.y)
    (Decides-and _ _ (Decides-int_eq a.w b.w) (Decides-int_eq a.h b.h))))

abbrev AllEqual : Color → Color → Type 0
AllEqual a b = (a.r ≡ b.r) × ((a.g ≡ b.g) × ((a.b ≡ b.b) × (a.a ≡ b.a)))

color_from_all : (a b : Color) → AllEqual a b → a ≡ b
color_from_all a b e =
    let make : ℕ → ℕ → ℕ → ℕ → Color = λ r g b a. record { r = r; g = g; b = b; a = a } in
    ap (λ r. make r a.g a.b a.a) e.0
    ∙ (ap (λ g. make b.r g a.b a.a) e.1.0
    ∙ (ap (λ u. make b.r b.g u a.a) e.1.1.0
    ∙ ap (λ o. make b.r b.g b.b o) e.1.1.1))

all_from_color : (a b : Color) → a ≡ b → AllEqual a b
all_from_color a b e = (ap (λ (r : Color). r.r) e, (ap (λ (r : Color). r.g) e, (ap (λ (r : Color). r.b) e, ap (λ (r : Color). r.a) e)))

pub Decides-color : (a b : Color) → Decides (is_same_color a b) (a ≡ b)
Decides-color a b =
    Decides-like _ (color_from_all a b) (all_from_color a b)
    (Decides-and _ _ (Decides-eqb a.r b.r)
    (Decides-and _ _ (Decides-eqb a.g b.g)
    (Decides-and _ _ (Decides-eqb a.b b.b) (Decides-eqb a.a b.a))))

-- ---- shapes
abbrev SamePlace : ℤ → ℤ → ℤ → ℤ → ℤ → ℤ → Type 0
SamePlace x y s v w z = (x ≡ v) × ((y ≡ w) × (s ≡ z))

Decides-place : (x y s v w z : ℤ) → Decides (is_same_place x y s v w z) (SamePlace x y s v w z)
Decides-place x y s v w z = Decides-and _ _ (Decides-int_eq x v) (Decides-and _ _ (Decides-int_eq y w) (Decides-int_eq s z))

Decides-text : (a b : List ℕ) → Decides (is_same_text a b) (a ≡ b)
Decides-text a b = slice_eq-Decides Decides-eqb a b (is_same_text a b) refl

fill_same : (r q : Rect) (c d : Color) → (r ≡ q) × (c ≡ d) → Fill r c ≡ Fill q d
fill_same r q c d e = cc (e.0, e.1)

fill_parts : (r q : Rect) (c d : Color) → Fill r c ≡ Fill q d → (r ≡ q) × (c ≡ d)
fill_parts r q c d e = (cc, cc)

letters_same : (x y s v w z : ℤ) (t u : List ℕ) (r q : Rect) (c d : Color)
    → SamePlace x y s v w z × ((t ≡ u) × ((r ≡ q) × (c ≡ d))) → Letters x y s t r c ≡ Letters v w z u q d
letters_same x y s v w z t u r q c d e = cc (e.0.0, e.0.1.0, e.0.1.1, e.1.0, e.1.1.0, e.1.1.1)

letters_parts : (x y s v w z : ℤ) (t u : List ℕ) (r q : Rect) (c d : Color)
    → Letters x y s t r c ≡ Letters v w z u q d → SamePlace x y s v w z × ((t ≡ u) × ((r ≡ q) × (c ≡ d)))
letters_parts x y s v w z t u r q c d e = ((cc, (cc, cc)), (cc, (cc, cc)))

pub Decides-shape : (a b : Shape) → Decides (is_same_shape a b) (a ≡ b)
unfolding is_same_shape
Decides-shape (Fill r c) (Fill q d) =
    Decides-like _ (fill_same r q c d) (fill_parts r q c d) (Decides-and _ _ (Decides-rect r q) (Decides-color c d))
Decides-shape (Fill r c) (Letters v w z u q d) = (λ e. cc, λ e. cc)
Decides-shape (Letters x y s t r c) (Fill q d) = (λ e. cc, λ e. cc)
Decides-shape (Letters x y s t r c) (Letters v w z u q d) =
    Decides-like _ (letters_same x y s v w z t u r q c d) (letters_parts x y s v w z t u r q c d)
    (Decides-and _ _ (Decides-place x y s v w z)
    (Decides-and _ _ (Decides-text t u)
    (Decides-and _ _ (Decides-rect r q) (Decides-color c d))))

pub Decides-shapes : (as' bs : List Shape) → Decides (pointwise is_same_shape as' bs) (as' ≡ bs)
Decides-shapes as' bs = slice_eq-Decides Decides-shape as' bs (pointwise is_same_shape as' bs) refl
