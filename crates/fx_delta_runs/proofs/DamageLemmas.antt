-- The rows of the damage bring an image up to date, where outside the damage it is so already.
use Rattle.std.proofs.Common.{◌≡◌, ◌<◌, ◌≤◌, ◌+◌, ◌-◌, ◌*◌, ◌^◌, ℕ, ℤ, pos, zero, suc, Bool, true, false, ◌&&◌, ◌||◌, eqb, leb, ltb, List, [], ◌∷◌, ◌++◌, length, take, drop, get_or, map, All, refl, sym, ap, ap₂, ◌∙◌, subst, inl, inr, arith}
use Rattle.std.specs.Prelude.{min}
use Rattle.std.specs.List.{flat_map, list_any, range_with_len}
use Rattle.std.proofs.lemmas.Bool.{and_from, and_parts, cases_Bool, le-leb, lt-ltb, true≢false}
use Rattle.std.proofs.lemmas.Bool.Decides.{nat_tests}
use Rattle.std.proofs.lemmas.Int.{ints}
use Rattle.std.proofs.lemmas.List.{get_or-append_right, get_or_append_left, get_or-drop, get_or-take, length-append, length-drop, length-take-le}
use Rattle.std.proofs.lemmas.List.Elements.{All-append, All-from_get_or, All-head, All-nil, All-tail}
use Rattle.std.proofs.lemmas.List.Folds.{list_any-append, list_any_at}
use Rattle.std.proofs.lemmas.List.FromFn.{get_or-map-range_with_len, length-map-range_with_len}
use Rattle.fx_base.specs.Rectangle.{in_span, inside}
use Rattle.fx_base.specs.declared.geometry.Rect.{Rect}
use Rattle.fx_delta.specs.Items.{with_items}
use Rattle.fx_delta.specs.Lines.{Item}
use Rattle.fx_delta.specs.Pictures.{Picture}
use Rattle.fx_delta_laws.specs.Streams.{IsItem}
use Rattle.fx_picture.specs.Pixels.{covered}
use Rattle.fx_picture.specs.Shapes.{whole}
use Rattle.fx_frame_text.specs.Frames.{Image, damage_items, image_of, picture_of, rect_items, row_item}
use Rattle.fx_frame_text.proofs.ChangeLemmas.{shown_height, shown_width}
use Rattle.fx_delta_runs.proofs.PointLemmas.{IsFull, IsOf, at, at-items, full-items, reaches, same-points}

-- a rectangle of a window, with at least one pixel
pub record Lies (width height : ℕ) (r : Rect) : Type 0 where
  pub left : r.x ≡ pos (whole r.x)
  pub top : r.y ≡ pos (whole r.y)
  pub wide : r.w ≡ pos (whole r.w)
  pub high : r.h ≡ pos (whole r.h)
  pub across : whole r.x + whole r.w ≤ width
  pub down : whole r.y + whole r.h ≤ height
  pub columns : 1 ≤ whole r.w
  pub rows : 1 ≤ whole r.h

-- pixels of 24 bits
abbrev pub AreColors : ℕ → ℕ → (ℕ → ℕ → ℕ) → Type 0
AreColors width height pixel = (x y : ℕ) → x < width → y < height → pixel x y < 2 ^ 24

-- ---- one row of a rectangle
row_part : (pixel : ℕ → ℕ) (width x w : ℕ) → List ℕ
row_part pixel width x w = take w (drop x (map pixel (range_with_len 0 width)))

length-part : (pixel : ℕ → ℕ) (width x w : ℕ) → x + w ≤ width → length (row_part pixel width x w) ≡ w
unfolding row_part
length-part pixel width x w h =
    let long : length (drop x (map pixel (range_with_len 0 width))) ≡ width - x =
    length-drop x (map pixel (range_with_len 0 width))
    ∙ ap (λ (n : ℕ). n - x) (length-map-range_with_len pixel 0 width) in
    length-take-le w (drop x (map pixel (range_with_len 0 width))) (omega (arith, h, long))

get-part : (pixel : ℕ → ℕ) (width x w j : ℕ) → x + w ≤ width → j < w
    → get_or (row_part pixel width x w) j 0 ≡ pixel (x + j)
unfolding row_part
get-part pixel width x w j h l =
    get_or-take w (drop x (map pixel (range_with_len 0 width))) j 0 l
    ∙ get_or-drop x (map pixel (range_with_len 0 width)) j 0
    ∙ get_or-map-range_with_len pixel 0 width (x + j) (x + j) 0 (omega (arith, h, l)) (omega arith)

row_is : (pixel : ℕ → ℕ → ℕ) (width height : ℕ) (r : Rect) (y : ℕ) → Lies width height r → y < height
    → AreColors width height pixel → IsItem width height (row_item (image_of width height pixel) r y)
unfolding row_part
row_is pixel width height r y lies below colors =
    let across = lies.across in
    let some = lies.columns in
    let row : List ℕ = take (whole r.w) (drop (whole r.x) (map (λ x. pixel x y) (range_with_len 0 width))) in
    let long : length row ≡ whole r.w = length-part (λ x. pixel x y) width (whole r.x) (whole r.w) across in
    record {
      some = omega (arith, some, long);
      colours = All-from_get_or (λ (p : ℕ). p < 2 ^ 24) row 0 (λ j h.
          let l : j < whole r.w = omega (arith, h, long) in
          subst (λ (p : ℕ). p < 2 ^ 24) (sym (get-part (λ x. pixel x y) width (whole r.x) (whole r.w) j across l))
          (colors (whole r.x + j) y (omega (arith, across, l)) below));
      across = omega (arith, across, long);
      down = below;
    }

row_of : (pixel : ℕ → ℕ → ℕ) (width height : ℕ) (r : Rect) (y : ℕ) → Lies width height r
    → IsOf pixel (row_item (image_of width height pixel) r y)
unfolding row_part
row_of pixel width height r y lies j h =
    let long = length-part (λ x. pixel x y) width (whole r.x) (whole r.w) lies.across in
    get-part (λ x. pixel x y) width (whole r.x) (whole r.w) j lies.across (omega (arith, h, long))

-- ---- the rows of a rectangle
-- what is so of each row
rows_are : (Is : Item → Type 0) (image : Image) (r : Rect) → ((y : ℕ) → y < image.height → Is (row_item image r y))
    → All Is (rect_items image r)
rows_are Is image r each =
    let top : ℕ = whole r.y in
    let count : ℕ = min (whole r.h) (image.height - top) in
    let long : length (rect_items image r) ≡ count = length-map-range_with_len (row_item image r) top count in
    All-from_get_or Is (rect_items image r) (row_item image r 0) (λ k h.
    let l : k < count = omega (arith, h, long) in
    subst Is
    (sym (get_or-map-range_with_len (row_item image r) top count k (top + k) (row_item image r 0) l refl))
    (each (top + k) (omega (arith, l))))

span_tells : (from size n : ℕ) → in_span (pos from) (pos size) n ≡ true → (from ≤ n) × (n < from + size)
unfolding in_span
span_tells from size n h = (grind (arith, ints), grind (arith, ints))

inside_tells : {width height : ℕ} (r : Rect) (x y : ℕ) → Lies width height r → inside r x y ≡ true
    → ((whole r.x ≤ x) × (x < whole r.x + whole r.w)) × ((whole r.y ≤ y) × (y < whole r.y + whole r.h))
inside_tells r x y lies h =
    let both = and_parts (in_span r.x r.w x) (in_span r.y r.h y) h in (
      span_tells (whole r.x) (whole r.w) x (ap₂ (λ (a b : ℤ). in_span a b x) (sym lies.left) (sym lies.wide) ∙ both.0),
      span_tells (whole r.y) (whole r.h) y (ap₂ (λ (a b : ℤ). in_span a b y) (sym lies.top) (sym lies.high) ∙ both.1),
    )

same : (n : ℕ) → eqb n n ≡ true
same n = grind (arith, nat_tests)

reached : (pixel : ℕ → ℕ → ℕ) (width height : ℕ) (r : Rect) (x y : ℕ) → Lies width height r
    → inside r x y ≡ true → list_any (reaches x y) (rect_items (image_of width height pixel) r) ≡ true
unfolding row_part
reached pixel width height r x y lies h =
    let image : Image = image_of width height pixel in
    let in_it = inside_tells r x y lies h in
    let down = lies.down in
    let top : ℕ = whole r.y in
    let count : ℕ = min (whole r.h) (height - top) in
    let from = in_it.1.0 in
    let to = in_it.1.1 in
    let left = in_it.0.0 in
    let right = in_it.0.1 in
    let l : y - top < count = omega (arith, down, from, to) in
    let place : top + (y - top) ≡ y = omega (arith, from) in
    let long : length (rect_items image r) ≡ count = length-map-range_with_len (row_item image r) top count in
    let wide : length (row_item image r y).pixels ≡ whole r.w =
    length-part (λ x. pixel x y) width (whole r.x) (whole r.w) lies.across in
    let there : reaches x y (row_item image r y) ≡ true =
    and_from (eqb y y) (leb (whole r.x) x && ltb x (whole r.x + length (row_item image r y).pixels)) (same y)
    (and_from (leb (whole r.x) x) (ltb x (whole r.x + length (row_item image r y).pixels)) (le-leb (whole r.x) x left)
    (lt-ltb x (whole r.x + length (row_item image r y).pixels) (omega (arith, right, wide)))) in
    list_any_at (reaches x y) (rect_items image r) (y - top) (row_item image r y) (omega (arith, l, long))
    (ap (reaches x y) (get_or-map-range_with_len (row_item image r) top count (y - top) y (row_item image r y) l place)
    ∙ there)

-- ---- the rows of the damage
pub items_are : (pixel : ℕ → ℕ → ℕ) (width height : ℕ) (damage : List Rect) → All (Lies width height) damage
    → AreColors width height pixel
    → All (IsItem width height) (damage_items (image_of width height pixel) damage)
items_are pixel width height [] lie colors = All-nil (IsItem width height)
items_are pixel width height (r ∷ rs) lie colors =
    let image : Image = image_of width height pixel in
    All-append (IsItem width height) (rect_items image r) (damage_items image rs)
    (rows_are (IsItem width height) image r
    (λ y h. row_is pixel width height r y (All-head (Lies width height) r rs lie) h colors))
    (items_are pixel width height rs (All-tail (Lies width height) r rs lie) colors)

items_of : (pixel : ℕ → ℕ → ℕ) (width height : ℕ) (damage : List Rect) → All (Lies width height) damage
    → All (IsOf pixel) (damage_items (image_of width height pixel) damage)
items_of pixel width height [] lie = All-nil (IsOf pixel)
items_of pixel width height (r ∷ rs) lie =
    let image : Image = image_of width height pixel in
    All-append (IsOf pixel) (rect_items image r) (damage_items image rs)
    (rows_are (IsOf pixel) image r (λ y h. row_of pixel width height r y (All-head (Lies width height) r rs lie)))
    (items_of pixel width height rs (All-tail (Lies width height) r rs lie))

or_left : (a b : Bool) → a ≡ true → (a || b) ≡ true
or_left true b e = refl
or_left false b e = absurd (true≢false (sym e))

or_right : (a b : Bool) → b ≡ true → (a || b) ≡ true
or_right true b e = refl
or_right false b e = e

none_reached : (pixel : ℕ → ℕ → ℕ) (width height : ℕ) (damage : List Rect) (x y : ℕ) → All (Lies width height) damage
    → covered damage x y ≡ true → list_any (reaches x y) (damage_items (image_of width height pixel) damage) ≡ true
none_reached pixel width height [] x y lie h = absurd (true≢false (sym h))
none_reached pixel width height (r ∷ rs) x y lie h =
    let image : Image = image_of width height pixel in
    let here : Bool = list_any (reaches x y) (rect_items image r) in
    let rest : Bool = list_any (reaches x y) (damage_items image rs) in
    list_any-append (reaches x y) (rect_items image r) (damage_items image rs)
    ∙ elim (cases_Bool (inside r x y)) [
      | inl in_it ↦
          or_left here rest (reached pixel width height r x y (All-head (Lies width height) r rs lie) in_it)
      | inr out ↦
          or_right here rest (none_reached pixel width height rs x y (All-tail (Lies width height) r rs lie)
          (sym (ap (λ (t : Bool). t || covered rs x y) out) ∙ h))
    ]

-- ---- an image as a picture
length-rows : (row : ℕ → List ℕ) (width from n : ℕ) → ((y : ℕ) → length (row y) ≡ width)
    → length (flat_map row (range_with_len from n)) ≡ n * width
length-rows row width from zero long = omega arith
length-rows row width from (suc n) long =
    let first = long from in
    let rest = length-rows row width (from + 1) n long in
    length-append (row from) (flat_map row (range_with_len (from + 1) n)) ∙ omega (arith, first, rest)

get-rows : (row : ℕ → List ℕ) (width from n x y : ℕ) → ((y : ℕ) → length (row y) ≡ width) → x < width → y < n
    → get_or (flat_map row (range_with_len from n)) (y * width + x) 0 ≡ get_or (row (from + y)) x 0
get-rows row width from zero x y long hx hy = absurd (omega (arith, hy))
get-rows row width from (suc n) x zero long hx hy =
    let first = long from in
    let rest : List ℕ = flat_map row (range_with_len (from + 1) n) in
    ap (λ (k : ℕ). get_or (row from ++ rest) k 0) (start width x)
    ∙ get_or_append_left (row from) rest 0 x (omega (arith, first, hx))
    ∙ ap (λ (k : ℕ). get_or (row k) x 0) (omega arith)
  where
    start : (w k : ℕ) → 0 * w + k ≡ k
    start w k = omega arith
get-rows row width from (suc n) x (suc y) long hx hy =
    let first = long from in
    let rest : List ℕ = flat_map row (range_with_len (from + 1) n) in
    get_or-append_right (row from) rest width (suc y * width + x) 0 first (omega arith)
    ∙ ap (λ (k : ℕ). get_or rest k 0) (back width x y)
    ∙ get-rows row width (from + 1) n x y long hx (omega (arith, hy))
    ∙ ap (λ (k : ℕ). get_or (row k) x 0) (omega arith)
  where
    back : (w k j : ℕ) → suc j * w + k - w ≡ j * w + k
    back w k j = omega arith

pub full-image : (pixel : ℕ → ℕ → ℕ) (width height : ℕ) → IsFull (picture_of (image_of width height pixel))
full-image pixel width height =
    length-rows (image_of width height pixel).row width 0 height
    (λ y. length-map-range_with_len (λ x. pixel x y) 0 width)

pub at-image : (pixel : ℕ → ℕ → ℕ) (width height x y : ℕ) → x < width → y < height
    → at (picture_of (image_of width height pixel)) x y ≡ pixel x y
at-image pixel width height x y hx hy =
    get-rows (image_of width height pixel).row width 0 height x y
    (λ y. length-map-range_with_len (λ x. pixel x y) 0 width) hx hy
    ∙ get_or-map-range_with_len (λ x. pixel x (0 + y)) 0 width x x 0 hx (omega arith)
    ∙ ap (pixel x) (omega arith)

-- ---- what is shown behind the rows of the damage
pub shown-image : (pixel : ℕ → ℕ → ℕ) (picture : Picture) (damage : List Rect) → IsFull picture
    → All (Lies picture.width picture.height) damage → AreColors picture.width picture.height pixel
    → ((x y : ℕ) → x < picture.width → y < picture.height → covered damage x y ≡ false
    → at picture x y ≡ pixel x y)
    → with_items picture (damage_items (image_of picture.width picture.height pixel) damage)
    ≡ picture_of (image_of picture.width picture.height pixel)
shown-image pixel picture damage full lie colors right =
    let width : ℕ = picture.width in
    let height : ℕ = picture.height in
    let items : List Item = damage_items (image_of width height pixel) damage in
    let last : Picture = with_items picture items in
    let image : Picture = picture_of (image_of width height pixel) in
    let are : All (IsItem width height) items = items_are pixel width height damage lie colors in
    let wide : last.width ≡ width = shown_width picture items in
    let high : last.height ≡ height = shown_height picture items in
    let long : length last.pixels ≡ height * width =
    full-items picture items full are ∙ ap₂ (λ (a b : ℕ). a * b) high wide in
    let points : (x y : ℕ) → x < width → y < height → at last x y ≡ pixel x y =
    at-items pixel picture items full are (items_of pixel width height damage lie)
    (λ x y hx hy none. right x y hx hy (elim (cases_Bool (covered damage x y)) [
      | inl in_it ↦
          absurd (true≢false (sym (none_reached pixel width height damage x y lie in_it) ∙ none))
      | inr out ↦ out
    ])) in
    let pixels : last.pixels ≡ image.pixels =
    same-points width height last.pixels image.pixels long (full-image pixel width height)
    (λ x y hx hy. ap (λ (n : ℕ). get_or last.pixels (y * n + x) 0) (sym wide) ∙ points x y hx hy
    ∙ sym (at-image pixel width height x y hx hy)) in
    ap (λ (n : ℕ). record { width = n; height = last.height; pixels = last.pixels }) wide
    ∙ ap (λ (n : ℕ). record { width = width; height = n; pixels = last.pixels }) high
    ∙ ap (λ (l : List ℕ). record { width = width; height = height; pixels = l }) pixels
