-- What is sent of a frame, item by item, and what is shown behind it.
use Rattle.std.proofs.Common.{◌≡◌, ◌<◌, ◌≤◌, ℕ, ◌+◌, ◌-◌, ◌*◌, zero, suc, List, [], ◌∷◌, ◌++◌, add-one, append_assoc, append-nil, ap, ap₂, drop, drop-cons, get_or, length, map, pos, refl, sym, take, ◌∙◌, arith}
use Rattle.std.specs.Prelude.{min}
use Rattle.std.specs.List.{flat_map, range_with_len}
use Rattle.std.proofs.Math.Seq.{drop-append-add, take-append-add}
use Rattle.std.proofs.lemmas.List.{length-append, length-drop}
use Rattle.fx_base.specs.declared.geometry.Rect.{Rect}
use Rattle.fx_delta.specs.Items.{item_text, items_text, with_items}
use Rattle.fx_delta.specs.Lines.{Item}
use Rattle.fx_delta.specs.Pictures.{Picture, with_pixels}
use Rattle.fx_picture.specs.Shapes.{whole}
use Rattle.fx_frame_text.specs.Frames.{Image, damage_items, picture_of, rect_items, row_item}

pub items_behind : (view : Picture) (front back : List Item)
    → items_text view (front ++ back) ≡ items_text view front ++ items_text (with_items view front) back
items_behind view [] back = refl
items_behind view (i ∷ is) back =
    let next = with_pixels view i.x i.y i.pixels in
    ap (λ (l : List ℕ). item_text view i ++ l) (items_behind next is back)
    ∙ sym (append_assoc (item_text view i) (items_text next is) (items_text (with_items next is) back))

-- items that were sent, before those that are left
pub some_sent : (view now : Picture) (text : List ℕ) {more all : List ℕ} (front back : List Item)
    → more ≡ text ++ items_text view front → now ≡ with_items view front
    → text ++ items_text view (front ++ back) ≡ all → more ++ items_text now back ≡ all
some_sent view now text {more} {all} front back sent shown before =
    ap (λ (l : List ℕ). l ++ items_text now back) sent
    ∙ ap (λ (p : Picture). (text ++ items_text view front) ++ items_text p back) shown
    ∙ append_assoc text (items_text view front) (items_text (with_items view front) back)
    ∙ ap (λ (l : List ℕ). text ++ l) (sym (items_behind view front back))
    ∙ before

-- one item was sent
pub one_sent : (view now : Picture) (text : List ℕ) {more all : List ℕ} (i : Item) (back : List Item)
    → more ≡ text ++ item_text view i → now ≡ with_pixels view i.x i.y i.pixels
    → text ++ items_text view (i ∷ back) ≡ all → more ++ items_text now back ≡ all
one_sent view now text {more} {all} i back sent shown before =
    ap (λ (l : List ℕ). l ++ items_text now back) sent
    ∙ ap (λ (p : Picture). (text ++ item_text view i) ++ items_text p back) shown
    ∙ append_assoc text (item_text view i) (items_text (with_pixels view i.x i.y i.pixels) back)
    ∙ before

pub one_shown : (view now : Picture) {all : Picture} (i : Item) (back : List Item)
    → now ≡ with_pixels view i.x i.y i.pixels → with_items view (i ∷ back) ≡ all → with_items now back ≡ all
one_shown view now {all} i back shown before = ap (λ (p : Picture). with_items p back) shown ∙ before

-- the rectangles that are left
abbrev pub no_rect : Rect
no_rect = record { x = pos 0; y = pos 0; w = pos 0; h = pos 0 }

pub next_rect : (image : Image) (rects : List Rect) (place : ℕ) → place < length rects
    → damage_items image (drop place rects)
    ≡ rect_items image (get_or rects place no_rect) ++ damage_items image (drop (place + 1) rects)
next_rect image rects place within =
    ap (damage_items image)
    (drop-cons rects place no_rect within
    ∙ ap (λ (n : ℕ). get_or rects place no_rect ∷ drop n rects) (sym (add-one place)))

-- the rows of a rectangle from a row on, up to the first one behind them
abbrev pub rows_from : Image → Rect → ℕ → ℕ → List Item
rows_from image rect bottom y = map (row_item image rect) (range_with_len y (bottom - y))

abbrev pub bottom_of : Image → Rect → ℕ
bottom_of image rect = whole rect.y + min (whole rect.h) (image.height - whole rect.y)

pub next_row : (image : Image) (rect : Rect) (bottom y : ℕ) → y < bottom
    → rows_from image rect bottom y ≡ row_item image rect y ∷ rows_from image rect bottom (y + 1)
next_row image rect bottom y h =
    let e : bottom - y ≡ suc (bottom - (y + 1)) = omega arith in
    rw e refl

pub no_row : (image : Image) (rect : Rect) (bottom y : ℕ) → bottom ≤ y → rows_from image rect bottom y ≡ []
no_row image rect bottom y h =
    let e : bottom - y ≡ 0 = omega arith in
    rw e refl

-- rows that are put from the first column on, one after another
abbrev pub with_rows : (ℕ → List ℕ) → List ℕ → Picture → Picture
with_rows row [] picture = picture
with_rows row (y ∷ ys) picture = with_rows row ys (with_pixels picture 0 y (row y))

-- below the rows that were put, others take the place of as many
rows_below : (row : ℕ → List ℕ) (w from n : ℕ) (picture : Picture) (above below : List ℕ)
    → picture.width ≡ w → picture.pixels ≡ above ++ below → length above ≡ from * w → length below ≡ n * w
    → ((y : ℕ) → y < from + n → length (row y) ≡ w)
    → with_rows row (range_with_len from n) picture
    ≡ record picture { pixels = above ++ flat_map row (range_with_len from n) }
rows_below row w from zero picture above below wide is high low long =
    ap (λ (l : List ℕ). record picture { pixels = l }) (is ∙ ap (λ (l : List ℕ). above ++ l) (none below (low ∙ zero-mul)))
  where
    zero-mul : 0 * w ≡ 0
    zero-mul = omega arith

    none : (l : List ℕ) → length l ≡ 0 → l ≡ []
    none [] e = refl
    none (x ∷ xs) e = absurd (cc)
rows_below row w from (suc n) picture above below wide is high low long =
    let this = row from in
    let next = with_pixels picture 0 from this in
    let one : length this ≡ w = long from (omega arith) in
    let start : from * picture.width + 0 ≡ length above + 0 = ap (λ (k : ℕ). from * k + 0) wide ∙ ap (λ (k : ℕ). k + 0) (sym high) in
    let behind : from * picture.width + 0 + length this ≡ length above + length this = ap (λ (k : ℕ). k + length this) start ∙ omega arith in
    let front : take (from * picture.width + 0) picture.pixels ≡ above =
    ap (λ (k : ℕ). take k picture.pixels) start ∙ ap (take (length above + 0)) is
    ∙ take-append-add above below 0 ∙ append-nil above in
    let back : drop (from * picture.width + 0 + length this) picture.pixels ≡ drop (length this) below =
    ap (λ (k : ℕ). drop k picture.pixels) behind ∙ ap (drop (length above + length this)) is
    ∙ drop-append-add above below (length this) in
    let there : next.pixels ≡ (above ++ this) ++ drop (length this) below =
    ap (λ (l : List ℕ). l ++ (this ++ drop (from * picture.width + 0 + length this) picture.pixels)) front
    ∙ ap (λ (l : List ℕ). above ++ (this ++ l)) back ∙ sym (append_assoc above this (drop (length this) below)) in
    rows_below row w (from + 1) n next (above ++ this) (drop (length this) below) wide there
    (length-append above this ∙ ap (λ (k : ℕ). k + length this) high ∙ ap (λ (k : ℕ). from * w + k) one ∙ more)
    (length-drop (length this) below ∙ ap (λ (k : ℕ). k - length this) low ∙ ap (λ (k : ℕ). suc n * w - k) one ∙ less)
    (λ y h. long y (omega (arith, h)))
    ∙ ap (λ (l : List ℕ). record picture { pixels = l }) (append_assoc above this (flat_map row (range_with_len (from + 1) n)))
  where
    more : from * w + w ≡ (from + 1) * w
    more = omega arith

    less : suc n * w - w ≡ n * w
    less = omega arith

-- all rows are put
pub all_put : (row : ℕ → List ℕ) (picture : Picture) → length picture.pixels ≡ picture.height * picture.width
    → ((y : ℕ) → y < picture.height → length (row y) ≡ picture.width)
    → with_rows row (range_with_len 0 picture.height) picture
    ≡ record picture { pixels = flat_map row (range_with_len 0 picture.height) }
all_put row picture full long =
    rows_below row picture.width 0 picture.height picture [] picture.pixels refl refl (omega arith) full
    (λ y h. long y (omega (arith, h)))

-- one row more is put
pub row_put : (row : ℕ → List ℕ) (height y : ℕ) (view now : Picture) (pixels : List ℕ) {all : Picture} → y < height
    → now ≡ with_pixels view 0 y pixels → pixels ≡ row y → with_rows row (range_with_len y (height - y)) view ≡ all
    → with_rows row (range_with_len (y + 1) (height - (y + 1))) now ≡ all
row_put row height y view now pixels {all} h shown same before =
    let e : height - y ≡ suc (height - (y + 1)) = omega arith in
    let rest : List ℕ = range_with_len (y + 1) (height - (y + 1)) in
    ap (λ (p : Picture). with_rows row rest p) (shown ∙ ap (with_pixels view 0 y) same)
    ∙ ap (λ (n : ℕ). with_rows row (range_with_len y n) view) (sym e) ∙ before

pub rows_put : (row : ℕ → List ℕ) (height y : ℕ) (view : Picture) {all : Picture} → height ≤ y
    → with_rows row (range_with_len y (height - y)) view ≡ all → view ≡ all
rows_put row height y view {all} h before =
    let e : height - y ≡ 0 = omega arith in
    ap (λ (n : ℕ). with_rows row (range_with_len y n) view) (sym e) ∙ before

-- what is shown behind all rows is the image
pub all_rows_put : (image : Image) (picture : Picture) → picture.width ≡ image.width → picture.height ≡ image.height
    → length picture.pixels ≡ picture.height * picture.width
    → ((y : ℕ) → y < image.height → length (image.row y) ≡ image.width)
    → with_rows image.row (range_with_len 0 image.height) picture ≡ picture_of image
all_rows_put image picture wide high full long =
    ap (λ (n : ℕ). with_rows image.row (range_with_len 0 n) picture) (sym high)
    ∙ all_put image.row picture full (λ y h. long y (omega (arith, h, high)) ∙ sym wide)
    ∙ ap (λ (n : ℕ). record picture { pixels = flat_map image.row (range_with_len 0 n) }) high
    ∙ ap₂ (λ (w h : ℕ). record {
      width = w;
      height = h;
      pixels = flat_map image.row (range_with_len 0 image.height);
    }) wide high

-- items leave the size
pub shown_width : (picture : Picture) (items : List Item) → (with_items picture items).width ≡ picture.width
shown_width picture [] = refl
shown_width picture (i ∷ is) = shown_width (with_pixels picture i.x i.y i.pixels) is

pub shown_height : (picture : Picture) (items : List Item) → (with_items picture items).height ≡ picture.height
shown_height picture [] = refl
shown_height picture (i ∷ is) = shown_height (with_pixels picture i.x i.y i.pixels) is
