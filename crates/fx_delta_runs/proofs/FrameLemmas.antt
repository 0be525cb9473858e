-- One frame behind another: what is sent of it, and what is shown behind it.
use Rattle.std.proofs.Common.{◌≡◌, ◌<◌, ◌≤◌, ◌*◌, ◌^◌, ◌-ℤ◌, ℕ, pos, Bool, true, false, cond, ◌&&◌, ◌||◌, eqb, leb, List, [], ◌∷◌, ◌++◌, length, map, Option, Some, None, All, append-nil, replicate, refl, sym, ap, ap₂, ◌∙◌, subst, inl, inr, arith}
use Rattle.std.specs.Prelude.{codes, IfSome}
use Rattle.std.proofs.lemmas.Bool.{and_from, and_parts, cases_Bool, eqb-true, leb-true, true≢false}
use Rattle.std.proofs.lemmas.Bool.Decides.{nat_tests}
use Rattle.std.proofs.lemmas.Int.{ints}
use Rattle.std.proofs.lemmas.List.{length-map, length-replicate}
use Rattle.std.proofs.lemmas.List.Elements.{All-cons, All-head, All-nil, All-tail}
use Rattle.fx_base.specs.Pixel.{white}
use Rattle.fx_base.specs.Rectangle.{in_span, inside}
use Rattle.fx_base.specs.declared.geometry.Rect.{Rect}
use Rattle.fx_damage.specs.Damage.{changed_boxes, cut_to, damage, window}
use Rattle.fx_damage.specs.Laws.{SameOutside}
use Rattle.fx_delta.specs.Items.{ended, items_text, with_items}
use Rattle.fx_delta.specs.Pictures.{Picture, begun, image, is_size, no_picture}
use Rattle.fx_delta_laws.specs.Streams.{Frame, IsArea, IsFrame, frame_picture, head}
use Rattle.fx_frame_text.specs.Frames.{damage_items, image_of, picture_of}
use Rattle.fx_picture.specs.Bounds.{rect_of}
use Rattle.fx_picture.specs.Pixels.{covered, pixel}
use Rattle.fx_plain_frames.specs.Drawable.{IsDrawable}
use Rattle.fx_plain_frames.specs.Pulses.{image_in}
use Rattle.fx_pulse_model.specs.Frames.{Framed}
use Rattle.fx_delta_runs.specs.Frames.{IsSent, area_of, damage_behind, part_behind, picture_behind}
use Rattle.fx_delta_runs.proofs.BoxLemmas.{boxes_lie, few, window_lies}
use Rattle.fx_delta_runs.proofs.DamageLemmas.{AreColors, Lies, at-image, full-image, items_are, shown-image}
use Rattle.fx_delta_runs.proofs.PointLemmas.{IsFull, at}
use Rattle.fx_delta_runs.proofs.TextLemmas.{head_text, image_text}

-- ---- what a frame begins with
-- a picture of the frame's size, which shows the frame already but for its damage
record Starts (next : Framed) (rects : List Rect) (start : Picture) : Type 0 where
  wide : start.width ≡ next.width
  high : start.height ≡ next.height
  full : IsFull start
  lie : All (Lies next.width next.height) rects
  few : length rects ≤ 16
  right : (x y : ℕ) → x < next.width → y < next.height → covered rects x y ≡ false
      → at start x y ≡ pixel next.picture x y

size_parts : (width height : ℕ) → is_size width height ≡ true
    → ((1 ≤ width) × (width ≤ 2048)) × ((1 ≤ height) × (height ≤ 2048))
size_parts width height e =
    let both = and_parts (leb 1 width && leb width 2048) (leb 1 height && leb height 2048) e in
    let wide = and_parts (leb 1 width) (leb width 2048) both.0 in
    let high = and_parts (leb 1 height) (leb height 2048) both.1 in
    ((leb-true 1 width wide.0, leb-true width 2048 wide.1), (leb-true 1 height high.0, leb-true height 2048 high.1))

in_window : (width height x y : ℕ) → x < width → y < height → inside (rect_of (window width height)) x y ≡ true
unfolding in_span
in_window width height x y hx hy =
    and_from (in_span (pos 0) (pos width -ℤ pos 0) x) (in_span (pos 0) (pos height -ℤ pos 0) y) (span width x hx)
    (span height y hy)
  where
    span : (n k : ℕ) → k < n → in_span (pos 0) (pos n -ℤ pos 0) k ≡ true
    span n k h = grind (arith, ints)

-- white, where the whole window is damaged
anew : (next : Framed) → is_size next.width next.height ≡ true
    → Starts next (damage None next.picture next.width next.height)
    (record { width = next.width; height = next.height; pixels = replicate (next.height * next.width) white })
anew next sized =
    let size = size_parts next.width next.height sized in
    record {
      wide = refl;
      high = refl;
      full = length-replicate (next.height * next.width) white;
      lie = window_lies next.width next.height size.0.0 size.1.0;
      few = omega arith;
      right = λ x y hx hy out.
          absurd (true≢false (sym (ap (λ (t : Bool). t || false) (in_window next.width next.height x y hx hy))
          ∙ out));
    }

-- the last picture, of the same size
over : SameOutside → (last next : Framed) → IsDrawable last → IsDrawable next → last.width ≡ next.width
    → last.height ≡ next.height
    → Starts next (damage (Some last.picture) next.picture next.width next.height) (picture_of (image_in last))
over outside last next old now wide high =
    let width : ℕ = next.width in
    let height : ℕ = next.height in
    record {
      wide = wide;
      high = high;
      full = full-image (pixel last.picture) last.width last.height;
      lie = boxes_lie width height (changed_boxes last.picture next.picture);
      few = few (cut_to (window width height) (changed_boxes last.picture next.picture));
      right = λ x y hx hy out.
          at-image (pixel last.picture) last.width last.height x y (subst (λ n. x < n) (sym wide) hx)
          (subst (λ n. y < n) (sym high) hy)
          ∙ outside last.picture next.picture width height x y old.rises now.rises old.births now.births hx hy out;
    }

-- a frame begins with the last picture or with white
starts : SameOutside → (last : Option Framed) (next : Framed) → IfSome last IsDrawable → IsDrawable next
    → Starts next (damage_behind last next) (begun next.width next.height (picture_behind last))
starts outside None next old now =
    let size = size_parts next.width next.height now.sized in
    let other : (eqb 0 next.width && eqb 0 next.height) ≡ false = no_size next.width size.0.0 (eqb 0 next.height) in
    subst
    (λ (t : Bool). Starts next (damage None next.picture next.width next.height)
    (cond t no_picture
    (record { width = next.width; height = next.height; pixels = replicate (next.height * next.width) white })))
    (sym other) (anew next now.sized)
  where
    no_size : (n : ℕ) → 1 ≤ n → (t : Bool) → (eqb 0 n && t) ≡ false
    no_size n h t = ap (λ (b : Bool). b && t) (differs n h)
      where
        differs : (n : ℕ) → 1 ≤ n → eqb 0 n ≡ false
        differs n h = grind (arith, nat_tests)
starts outside (Some last) next old now = elim (cases_Bool (eqb last.width next.width && eqb last.height next.height)) [
  | inl same ↦
      let both = and_parts (eqb last.width next.width) (eqb last.height next.height) same in
      subst Chosen (sym same)
      (over outside last next old now (eqb-true last.width next.width both.0)
      (eqb-true last.height next.height both.1))
  | inr other ↦ subst Chosen (sym other) (anew next now.sized)
]
  where
    Chosen : Bool → Type 0
    Chosen t =
        Starts next
        (damage (cond t (Some last.picture) None) next.picture next.width next.height)
        (cond t (picture_of (image_in last))
        (record { width = next.width; height = next.height; pixels = replicate (next.height * next.width) white }))

-- ---- what a frame ends with
colors : (next : Framed) → IsDrawable next → AreColors next.width next.height (pixel next.picture)
colors next now = now.pixels

ends : (next : Framed) (rects : List Rect) (start : Picture) → IsDrawable next → Starts next rects start
    → with_items start (damage_items (image_in next) rects) ≡ picture_of (image_in next)
ends next rects start now s = by next.width next.height s.wide s.high s.full s.lie s.right (colors next now)
  where
    by : (width height : ℕ) → start.width ≡ width → start.height ≡ height → IsFull start
        → All (Lies width height) rects
        → ((x y : ℕ) → x < width → y < height → covered rects x y ≡ false → at start x y ≡ pixel next.picture x y)
        → AreColors width height (pixel next.picture)
        → with_items start (damage_items (image_of width height (pixel next.picture)) rects)
        ≡ picture_of (image_of width height (pixel next.picture))
    by width height wide high full lie right small =
        subst
        (λ (w : ℕ). with_items start (damage_items (image_of w height (pixel next.picture)) rects)
        ≡ picture_of (image_of w height (pixel next.picture))) wide
        (subst
        (λ (h : ℕ). with_items start (damage_items (image_of start.width h (pixel next.picture)) rects)
        ≡ picture_of (image_of start.width h (pixel next.picture))) high
        (shown-image (pixel next.picture) start rects full
        (subst (λ (w : ℕ). All (Lies w start.height) rects) (sym wide)
        (subst (λ (h : ℕ). All (Lies width h) rects) (sym high) lie))
        (λ x y hx hy. small x y (subst (λ n. x < n) wide hx) (subst (λ n. y < n) high hy))
        (λ x y hx hy. right x y (subst (λ n. x < n) wide hx) (subst (λ n. y < n) high hy))))

-- ---- the frame as a part
areas_are : (width height : ℕ) (rects : List Rect) → width ≤ 2048 → height ≤ 2048 → All (Lies width height) rects
    → All IsArea (map area_of rects)
areas_are width height [] w h lie = All-nil IsArea
areas_are width height (r ∷ rs) w h lie =
    let here : Lies width height r = All-head (Lies width height) r rs lie in
    let across = here.across in
    let down = here.down in
    All-cons IsArea (area_of r) (map area_of rs)
    (record {
      x = omega (arith, across, w);
      y = omega (arith, down, h);
      w = omega (arith, across, w);
      h = omega (arith, down, h);
    })
    (areas_are width height rs w h (All-tail (Lies width height) r rs lie))

good : (number : ℕ) (next : Framed) (rects : List Rect) (start : Picture) → 1 ≤ number → number < 2 ^ 64
    → IsDrawable next → Starts next rects start
    → IsFrame (record {
      number = number;
      width = next.width;
      height = next.height;
      areas = map area_of rects;
      items = damage_items (image_in next) rects;
    })
good number next rects start some small now s =
    let size = size_parts next.width next.height now.sized in
    let many : length (map area_of rects) ≡ length rects = length-map rects area_of in
    let most = s.few in
    record {
      numbered = some;
      small = small;
      sized = now.sized;
      few = omega (arith, many, most);
      areas = areas_are next.width next.height rects size.0.1 size.1.1 s.lie;
      items = items_are (pixel next.picture) next.width next.height rects s.lie (colors next now);
    }

pub sent : SameOutside → (number : ℕ) (last : Option Framed) (next : Framed) → 1 ≤ number → number < 2 ^ 64
    → IfSome last IsDrawable → IsDrawable next → IsSent number last next
sent outside number last next some small old now =
    let rects : List Rect = damage_behind last next in
    let start : Picture = begun next.width next.height (picture_behind last) in
    let s : Starts next rects start = starts outside last next old now in
    let part : Frame = part_behind number last next in
    let shown : frame_picture (picture_behind last) part ≡ picture_of (image_in next) = ends next rects start now s in
    let before = head_text number next.width next.height rects part.items s.lie in
    record {
      good = good number next rects start some small now s;
      shown = shown;
      stream = ap (λ (l : List ℕ). l ++ (items_text start part.items ++ ended (codes "endframe"))) before
          ∙ sym (append-nil (head part ++ (items_text start part.items ++ ended (codes "endframe"))));
      frames = ap₂ (λ (a b : List ℕ). a ++ b) before
          (image_text (pixel next.picture) next.width next.height ∙ ap image (sym shown))
          ∙ sym (append-nil (head part ++ image (frame_picture (picture_behind last) part)));
    }
