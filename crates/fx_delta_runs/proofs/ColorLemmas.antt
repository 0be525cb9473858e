-- A pixel of shapes whose colours' channels are bytes has 24 bits.
use Rattle.std.proofs.Common.{◌≡◌, ◌<◌, ◌≤◌, ◌+◌, ◌-◌, ◌*◌, ◌/◌, ◌^◌, ℕ, Bool, true, false, cond, List, [], ◌∷◌, All, arith}
use Rattle.std.proofs.Math.Nat.{mul-le-mul_right}
use Rattle.std.proofs.lemmas.List.Elements.{All-head, All-tail}
use Rattle.std.proofs.lemmas.Nat.{div_below, mod_below}
use Rattle.fx_base.specs.Pixel.{blended, blue_of, channel, green_of, red_of, white}
use Rattle.fx_base.specs.declared.color.Color.{Color}
use Rattle.fx_picture.specs.Pixels.{laid, over, pixel, shapes_of}
use Rattle.fx_picture.specs.Shapes.{color_of, holds}
use Rattle.fx_picture.specs.declared.entries.Entry.{Entry}
use Rattle.fx_picture.specs.declared.shapes.Shape.{Shape}
use Rattle.fx_plain_frames.specs.Drawable.{ArePixels}
use Rattle.fx_delta_runs.specs.Frames.{IsColor}

mixed : (upper opacity under rest : ℕ) → upper < 256 → under < 256 → opacity + rest ≡ 255
    → upper * opacity + under * rest + 127 < 256 * 255
mixed upper opacity under rest h u e =
    let one : upper * opacity ≤ 255 * opacity = mul-le-mul_right opacity (most upper h) in
    let other : under * rest ≤ 255 * rest = mul-le-mul_right rest (most under u) in
    omega (arith, one, other, e)
  where
    most : (n : ℕ) → n < 256 → n ≤ 255
    most n h = omega (arith, h)

channel_byte : (upper opacity under : ℕ) → upper < 256 → opacity < 256 → under < 256
    → channel upper opacity under < 256
unfolding channel
channel_byte upper opacity under h o u =
    div_below (upper * opacity + under * (255 - opacity) + 127) 255 256 (omega arith)
    (mixed upper opacity under (255 - opacity) h u (omega (arith, o)))

blended_small : (color : Color) (under : ℕ) → IsColor color → blended color under < 2 ^ 24
unfolding blended
blended_small color under is =
    let r =
    channel_byte color.r color.a (red_of under) is.red is.opacity (mod_below (under / 65536) 256 (omega arith)) in
    let g =
    channel_byte color.g color.a (green_of under) is.green is.opacity (mod_below (under / 256) 256 (omega arith)) in
    let b = channel_byte color.b color.a (blue_of under) is.blue is.opacity (mod_below under 256 (omega arith)) in
    sum (channel color.r color.a (red_of under)) (channel color.g color.a (green_of under))
    (channel color.b color.a (blue_of under)) r g b
  where
    sum : (x y z : ℕ) → x < 256 → y < 256 → z < 256 → x * 65536 + y * 256 + z < 2 ^ 24
    sum x y z p q r = omega (arith, p, q, r)

over_small : (shapes : List Shape) (x y under : ℕ) → All (λ (s : Shape). IsColor (color_of s)) shapes
    → under < 2 ^ 24 → over x y under shapes < 2 ^ 24
over_small [] x y under all h = h
over_small (s ∷ ss) x y under all h =
    over_small ss x y (laid s x y under) (All-tail (λ (s : Shape). IsColor (color_of s)) s ss all) (by (holds s x y))
  where
    by : (t : Bool) → cond t (blended (color_of s) under) under < 2 ^ 24
    by true = blended_small (color_of s) under (All-head (λ (s : Shape). IsColor (color_of s)) s ss all)
    by false = h

pixel_small : (entries : List Entry) (x y : ℕ) → All (λ (s : Shape). IsColor (color_of s)) (shapes_of entries)
    → pixel entries x y < 2 ^ 24
pixel_small entries x y all = over_small (shapes_of entries) x y white all (omega arith)

pub pixels_are : (width height : ℕ) (entries : List Entry)
    → All (λ (s : Shape). IsColor (color_of s)) (shapes_of entries) → ArePixels width height entries
pixels_are width height entries all = λ x y hx hy. pixel_small entries x y all
