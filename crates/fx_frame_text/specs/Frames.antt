-- A frame as output, in each of the forms of its image.
use Rattle.std.specs.Prelude.{ℕ, ◌-◌, List, [], ◌∷◌, ◌++◌, codes, drop, length, map, min, sum, take, Option, None, Some}
use Rattle.std.specs.Fmt.{decimal, signed_decimal}
use Rattle.std.specs.List.{flat_map, range_with_len, sum_by}
use Rattle.fx_text.specs.Characters.{line_feed, space}
use Rattle.fx_base.specs.Pixel.{red_of, green_of, blue_of}
use Rattle.fx_base.specs.declared.geometry.Rect.{Rect}
use Rattle.fx_delta.specs.Items.{items_text}
use Rattle.fx_delta.specs.Lines.{Item}
use Rattle.fx_delta.specs.Pictures.{Picture, begun, no_picture}
use Rattle.fx_picture.specs.Shapes.{whole}
use Rattle.fx_row_text.specs.Rows.{row_text}
use Rattle.fx_frame_text.specs.declared.forms.Form.{Form}
use Rattle.fx_frame_text.specs.declared.forms.Form.TheVariants.{Text, Ppm, Nothing, Delta}

-- a picture of so many columns and rows, by the pixels of each row
pub record Image : Type 0 where
  pub width : ℕ
  pub height : ℕ
  pub row : ℕ → List ℕ

-- the rows of a picture that has this pixel at each column and row
abbrev pub image_of : ℕ → ℕ → (ℕ → ℕ → ℕ) → Image
image_of width height pixel =
    record { width = width; height = height; row = λ y. map (λ x. pixel x y) (range_with_len 0 width) }

-- three bytes
abbrev pub pixel_bytes : ℕ → List ℕ
pixel_bytes pixel = red_of pixel ∷ (green_of pixel ∷ (blue_of pixel ∷ []))

-- a row in this form
abbrev pub row_in : Form → List ℕ → List ℕ
row_in Text pixels = row_text pixels
row_in Ppm pixels = flat_map pixel_bytes pixels
row_in Nothing pixels = []
row_in Delta pixels = []

abbrev pub rows_in : Form → Image → List ℕ
rows_in form image = flat_map (λ y. row_in form (image.row y)) (range_with_len 0 image.height)

-- what stands before the rows: of a pixmap `P6`, the size, and the greatest value of a byte
unfoldable pub ppm_header : ℕ → ℕ → List ℕ
ppm_header width height =
    codes "P6\n" ++ (decimal width ++ (space ∷ (decimal height ++ codes "\n255\n")))

-- the picture that an image is
abbrev pub picture_of : Image → Picture
picture_of image =
    record { width = image.width; height = image.height; pixels = flat_map image.row (range_with_len 0 image.height) }

-- what a viewer shows behind the frame that was written last
abbrev pub shown_behind : Option Image → Picture
shown_behind None = no_picture
shown_behind (Some image) = picture_of image

-- the pixels of a row of a rectangle
abbrev pub row_item : Image → Rect → ℕ → Item
row_item image rect y =
    record { x = whole rect.x; y = y; pixels = take (whole rect.w) (drop (whole rect.x) (image.row y)) }

-- those of its rows, from the top, as far as they lie in the image
abbrev pub rect_items : Image → Rect → List Item
rect_items image rect =
    map (row_item image rect) (range_with_len (whole rect.y) (min (whole rect.h) (image.height - whole rect.y)))

abbrev pub damage_items : Image → List Rect → List Item
damage_items image damage = flat_map (rect_items image) damage

-- the rows of the damage that a viewer doesn't show yet, where this is what it shows behind the last frame
abbrev pub changes_text : Picture → List Rect → Image → List ℕ
changes_text shown damage image = items_text (begun image.width image.height shown) (damage_items image damage)

-- an image behind another one, with what may be another than there
abbrev pub image_text : Form → Option Image → List Rect → Image → List ℕ
image_text Text last damage image = rows_in Text image
image_text Ppm last damage image = ppm_header image.width image.height ++ rows_in Ppm image
image_text Nothing last damage image = []
image_text Delta last damage image = changes_text (shown_behind last) damage image ++ codes "endframe\n"

-- `X Y W H`
unfoldable pub rect_line : Rect → List ℕ
rect_line rect =
    signed_decimal rect.x ++ (space ∷ (signed_decimal rect.y ++ (space ∷ (signed_decimal rect.w
    ++ (space ∷ (signed_decimal rect.h ++ (line_feed ∷ [])))))))

-- `frame N W H damage K`, and a line for each of the K rectangles
unfoldable pub head_line : ℕ → ℕ → ℕ → ℕ → List ℕ
head_line number width height count =
    codes "frame " ++ (decimal number ++ (space ∷ (decimal width ++ (space ∷ (decimal height
    ++ (codes " damage " ++ (decimal count ++ (line_feed ∷ []))))))))

abbrev pub frame_head : ℕ → ℕ → ℕ → List Rect → List ℕ
frame_head number width height damage =
    head_line number width height (length damage) ++ flat_map rect_line damage

-- the frame of this number, with its damage and its image, behind the image of the frame before it
abbrev pub frame_text : Form → ℕ → Option Image → List Rect → Image → List ℕ
frame_text form number last damage image =
    frame_head number image.width image.height damage ++ image_text form last damage image

-- all pixels of a picture added up
abbrev pub pixel_sum : Image → ℕ
pixel_sum image = sum_by (λ y. sum (image.row y)) (range_with_len 0 image.height)
