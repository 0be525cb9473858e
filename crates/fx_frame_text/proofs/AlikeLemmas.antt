-- Images whose rows are the same are written alike.
use Rattle.std.proofs.Common.{◌≡◌, ◌<◌, ◌≤◌, ℕ, ◌+◌, ◌-◌, zero, suc, List, [], ◌∷◌, ◌++◌, Option, ap, ap₂, drop, map, sym, take, ◌∙◌, refl, arith, sum}
use Rattle.std.specs.Prelude.{codes, min}
use Rattle.std.proofs.Math.Nat.{min-le_right}
use Rattle.std.specs.List.{flat_map, range_with_len, sum_by}
use Rattle.std.proofs.lemmas.List.Sums.{sum_by-cons}
use Rattle.fx_base.specs.declared.geometry.Rect.{Rect}
use Rattle.fx_delta.specs.Items.{items_text}
use Rattle.fx_delta.specs.Lines.{Item}
use Rattle.fx_delta.specs.Pictures.{begun}
use Rattle.fx_picture.specs.Shapes.{whole}
use Rattle.fx_frame_text.specs.Frames.{Image, damage_items, frame_head, frame_text, image_text, picture_of, pixel_sum, ppm_header, rect_items, row_in, row_item, rows_in, shown_behind}
use Rattle.fx_frame_text.specs.declared.forms.Form.{Form}
use Rattle.fx_frame_text.specs.declared.forms.Form.TheVariants.{Text, Ppm, Nothing, Delta}

-- of one size, with the same rows
pub record AreAlike (one other : Image) : Type 0 where
  pub wide : one.width ≡ other.width
  pub high : one.height ≡ other.height
  pub rows : (y : ℕ) → y < one.height → one.row y ≡ other.row y

flat_alike : (f g : ℕ → List ℕ) (from n most : ℕ) → from + n ≤ most → ((y : ℕ) → y < most → f y ≡ g y)
    → flat_map f (range_with_len from n) ≡ flat_map g (range_with_len from n)
flat_alike f g from zero most h same = refl
flat_alike f g from (suc n) most h same =
    ap₂ (λ (a b : List ℕ). a ++ b) (same from (omega (arith, h))) (flat_alike f g (from + 1) n most (omega (arith, h)) same)

rows_alike : {one other : Image} (form : Form) → AreAlike one other → rows_in form one ≡ rows_in form other
rows_alike {one} {other} form alike =
    flat_alike (λ y. row_in form (one.row y)) (λ y. row_in form (other.row y)) 0 one.height one.height (omega arith)
    (λ y h. ap (row_in form) (alike.rows y h))
    ∙ ap (λ n. flat_map (λ y. row_in form (other.row y)) (range_with_len 0 n)) alike.high

rows_same : {A : Type 0} (f g : ℕ → A) (from n : ℕ) → ((y : ℕ) → y < from + n → from ≤ y → f y ≡ g y)
    → map f (range_with_len from n) ≡ map g (range_with_len from n)
rows_same f g from zero same = refl
rows_same f g from (suc n) same =
    ap₂ (λ a b. a ∷ b) (same from (omega arith) (omega arith))
    (rows_same f g (from + 1) n (λ y h above. same y (omega (arith, h)) (omega (arith, above))))

rect_alike : {one other : Image} (rect : Rect) → AreAlike one other → rect_items one rect ≡ rect_items other rect
rect_alike {one} {other} rect alike =
    let top = whole rect.y in
    let count = min (whole rect.h) (one.height - top) in
    let low : count ≤ one.height - top = min-le_right (whole rect.h) (one.height - top) in
    rows_same (row_item one rect) (row_item other rect) top count
    (λ y h above. ap (λ (l : List ℕ). record { x = whole rect.x; y = y; pixels = take (whole rect.w) (drop (whole rect.x) l) })
    (alike.rows y (omega (arith, h, above, low))))
    ∙ ap (λ (n : ℕ). map (row_item other rect) (range_with_len top (min (whole rect.h) (n - top)))) alike.high

damage_alike : {one other : Image} (damage : List Rect) → AreAlike one other
    → damage_items one damage ≡ damage_items other damage
damage_alike [] alike = refl
damage_alike (rect ∷ rects) alike =
    ap₂ (λ (a b : List Item). a ++ b) (rect_alike rect alike) (damage_alike rects alike)

image_alike : {one other : Image} (form : Form) (last : Option Image) (damage : List Rect) → AreAlike one other
    → image_text form last damage one ≡ image_text form last damage other
image_alike Text last damage alike = rows_alike Text alike
image_alike Ppm last damage alike =
    ap₂ (λ (a b : List ℕ). a ++ b) (ap₂ ppm_header alike.wide alike.high) (rows_alike Ppm alike)
image_alike Nothing last damage alike = refl
image_alike Delta last damage alike =
    ap (λ (l : List ℕ). l ++ codes "endframe\n")
    (ap₂ items_text (ap₂ (λ w h. begun w h (shown_behind last)) alike.wide alike.high) (damage_alike damage alike))

pub text_alike : {one other : Image} (form : Form) (number : ℕ) (last : Option Image) (damage : List Rect)
    → AreAlike one other → frame_text form number last damage one ≡ frame_text form number last damage other
text_alike form number last damage alike =
    ap₂ (λ (a b : List ℕ). a ++ b) (ap₂ (λ w h. frame_head number w h damage) alike.wide alike.high)
    (image_alike form last damage alike)

-- and they are one picture
pub picture_alike : {one other : Image} → AreAlike one other → picture_of one ≡ picture_of other
picture_alike {one} {other} alike =
    ap (λ (l : List ℕ). record { width = one.width; height = one.height; pixels = l })
    (flat_alike one.row other.row 0 one.height one.height (omega arith) alike.rows)
    ∙ ap₂ (λ (w h : ℕ). record { width = w; height = h; pixels = flat_map other.row (range_with_len 0 h) })
    alike.wide alike.high

sums_alike : (f g : ℕ → ℕ) (from n most : ℕ) → from + n ≤ most → ((y : ℕ) → y < most → f y ≡ g y)
    → sum_by f (range_with_len from n) ≡ sum_by g (range_with_len from n)
sums_alike f g from zero most h same = refl
sums_alike f g from (suc n) most h same =
    sum_by-cons f from (range_with_len (from + 1) n)
    ∙ ap₂ (λ (a b : ℕ). a + b) (same from (omega (arith, h))) (sums_alike f g (from + 1) n most (omega (arith, h)) same)
    ∙ sym (sum_by-cons g from (range_with_len (from + 1) n))

pub sum_alike : {one other : Image} → AreAlike one other → pixel_sum one ≡ pixel_sum other
sum_alike {one} {other} alike =
    sums_alike (λ y. sum (one.row y)) (λ y. sum (other.row y)) 0 one.height one.height (omega arith)
    (λ y h. ap sum (alike.rows y h))
    ∙ ap (λ n. sum_by (λ y. sum (other.row y)) (range_with_len 0 n)) alike.high
