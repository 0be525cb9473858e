-- A frame's text is that of a part of a stream.
use Rattle.std.proofs.Common.{◌≡◌, ◌<◌, ◌≤◌, ◌+◌, ◌*◌, ℕ, ℤ, pos, zero, suc, List, [], ◌∷◌, ◌++◌, length, take, drop, map, All, append_assoc, refl, sym, ap, ap₂, ◌∙◌, arith}
use Rattle.std.specs.Prelude.{codes}
use Rattle.std.specs.Fmt.{decimal, signed_decimal}
use Rattle.std.specs.List.{flat_map, range_with_len}
use Rattle.std.proofs.lemmas.List.{drop_at, length-map, take_at, drop-drop}
use Rattle.std.proofs.lemmas.List.Elements.{All-head, All-tail}
use Rattle.std.proofs.lemmas.List.FromFn.{length-map-range_with_len}
use Rattle.fx_text.specs.Characters.{line_feed, space}
use Rattle.fx_base.specs.declared.geometry.Rect.{Rect}
use Rattle.fx_delta.specs.Items.{ended}
use Rattle.fx_delta.specs.Lines.{Item}
use Rattle.fx_delta.specs.Pictures.{image, row_of}
use Rattle.fx_delta_laws.specs.Streams.{Area, area_line, frame_line, head}
use Rattle.fx_picture.specs.Shapes.{whole}
use Rattle.fx_row_text.specs.Rows as rows
use Rattle.fx_frame_text.specs.Frames.{Image, frame_head, head_line, image_of, picture_of, rect_line, rows_in}
use Rattle.fx_frame_text.specs.declared.forms.Form.TheVariants.{Text}
use Rattle.fx_delta_runs.specs.Frames.{area_of}
use Rattle.fx_delta_runs.proofs.DamageLemmas.{Lies}

-- ---- what stands before an image
line_ended : (number width height count : List ℕ)
    → codes "frame " ++ (number ++ (space ∷ (width ++ (space ∷ (height ++ (codes " damage "
    ++ (count ++ (line_feed ∷ []))))))))
    ≡ ended (codes "frame " ++ (number ++ (space ∷ (width ++ (space ∷ (height ++ (codes " damage " ++ count)))))))
line_ended number width height count = simp append_assoc refl

rect_ended : (x y w h : List ℕ)
    → x ++ (space ∷ (y ++ (space ∷ (w ++ (space ∷ (h ++ (line_feed ∷ [])))))))
    ≡ ended (x ++ (space ∷ (y ++ (space ∷ (w ++ (space ∷ h))))))
rect_ended x y w h = simp append_assoc refl

number_text : (z : ℤ) → z ≡ pos (whole z) → signed_decimal z ≡ decimal (whole z)
number_text z e = ap signed_decimal e

rect_text : (width height : ℕ) (r : Rect) → Lies width height r → rect_line r ≡ ended (area_line (area_of r))
unfolding rect_line area_line
rect_text width height r lies =
    rect_ended (signed_decimal r.x) (signed_decimal r.y) (signed_decimal r.w) (signed_decimal r.h)
    ∙ ap (λ (l : List ℕ). ended (l ++ (space ∷ (signed_decimal r.y ++ (space ∷ (signed_decimal r.w
    ++ (space ∷ signed_decimal r.h))))))) (number_text r.x lies.left)
    ∙ ap (λ (l : List ℕ). ended (decimal (whole r.x) ++ (space ∷ (l ++ (space ∷ (signed_decimal r.w
    ++ (space ∷ signed_decimal r.h))))))) (number_text r.y lies.top)
    ∙ ap (λ (l : List ℕ). ended (decimal (whole r.x) ++ (space ∷ (decimal (whole r.y) ++ (space ∷ (l
    ++ (space ∷ signed_decimal r.h))))))) (number_text r.w lies.wide)
    ∙ ap (λ (l : List ℕ). ended (decimal (whole r.x) ++ (space ∷ (decimal (whole r.y) ++ (space ∷ (decimal (whole r.w)
    ++ (space ∷ l))))))) (number_text r.h lies.high)

rects_text : (width height : ℕ) (damage : List Rect) → All (Lies width height) damage
    → flat_map rect_line damage ≡ flat_map (λ (a : Area). ended (area_line a)) (map area_of damage)
rects_text width height [] lie = refl
rects_text width height (r ∷ rs) lie =
    ap₂ (λ (a b : List ℕ). a ++ b) (rect_text width height r (All-head (Lies width height) r rs lie))
    (rects_text width height rs (All-tail (Lies width height) r rs lie))

pub head_text : (number width height : ℕ) (damage : List Rect) (items : List Item) → All (Lies width height) damage
    → frame_head number width height damage
    ≡ head (record { number = number; width = width; height = height; areas = map area_of damage; items = items })
unfolding head_line frame_line
head_text number width height damage items lie =
    ap₂ (λ (a b : List ℕ). a ++ b)
    (line_ended (decimal number) (decimal width) (decimal height) (decimal (length damage))
    ∙ ap (λ (n : ℕ). ended (codes "frame " ++ (decimal number ++ (space ∷ (decimal width ++ (space ∷ (decimal height
    ++ (codes " damage " ++ decimal n)))))))) (sym (length-map damage area_of)))
    (rects_text width height damage lie)

-- ---- the rows of an image
row_in : (row : ℕ → List ℕ) (width from n y : ℕ) → ((y : ℕ) → length (row y) ≡ width) → y < n
    → take width (drop (y * width) (flat_map row (range_with_len from n))) ≡ row (from + y)
row_in row width from zero y long h = absurd (omega (arith, h))
row_in row width from (suc n) zero long h =
    let rest : List ℕ = flat_map row (range_with_len (from + 1) n) in
    ap (λ (k : ℕ). take width (drop k (row from ++ rest))) (none width)
    ∙ take_at (row from) rest width (long from)
    ∙ ap row (omega arith)
  where
    none : (w : ℕ) → 0 * w ≡ 0
    none w = omega arith
row_in row width from (suc n) (suc y) long h =
    let rest : List ℕ = flat_map row (range_with_len (from + 1) n) in
    ap (λ (k : ℕ). take width (drop k (row from ++ rest))) (more width y)
    ∙ ap (take width) (sym (drop-drop (y * width) width (row from ++ rest)))
    ∙ ap (λ (l : List ℕ). take width (drop (y * width) l)) (drop_at (row from) rest width (long from))
    ∙ row_in row width (from + 1) n y long (omega (arith, h))
    ∙ ap row (omega arith)
  where
    more : (w k : ℕ) → suc k * w ≡ w + k * w
    more w k = omega arith

rows_from : (f g : ℕ → List ℕ) (from n most : ℕ) → from + n ≤ most → ((y : ℕ) → y < most → f y ≡ g y)
    → flat_map f (range_with_len from n) ≡ flat_map g (range_with_len from n)
rows_from f g from zero most h same = refl
rows_from f g from (suc n) most h same =
    ap₂ (λ (a b : List ℕ). a ++ b) (same from (omega (arith, h)))
    (rows_from f g (from + 1) n most (omega (arith, h)) same)

pub image_text : (pixel : ℕ → ℕ → ℕ) (width height : ℕ)
    → rows_in Text (image_of width height pixel) ≡ image (picture_of (image_of width height pixel))
image_text pixel width height =
    let of : Image = image_of width height pixel in
    rows_from (λ y. rows.row_text (of.row y)) (λ y. rows.row_text (row_of (picture_of of) y)) 0 height height
    (omega arith)
    (λ y h. ap rows.row_text (sym (row_in of.row width 0 height y
    (λ y. length-map-range_with_len (λ x. pixel x y) 0 width) h ∙ ap of.row (omega arith))))
