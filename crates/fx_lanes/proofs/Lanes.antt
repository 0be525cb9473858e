-- Lanes of channels: how they come from pixels, how they are mixed, and how pixels come from them.
-- Cited by the proofs of the kernels.
use Rattle.std.proofs.Common.{◌≡◌, ℕ, ◌+◌, ◌-◌, ◌*◌, ◌/◌, ◌%◌, ◌^◌, ◌<◌, ◌≤◌, cond, eqb, List, [], ◌∷◌, length, map, replicate, zero, suc, refl, sym, ap, ◌∙◌, arith, inl, inr, pow-suc, eq-eqb}
use Rattle.std.proofs.Math.Nat.{mul-le-mul_right}
use Rattle.std.proofs.lemmas.Bool.Decides.{eqb_tells}
use Rattle.std.proofs.lemmas.Nat.{and_mask}
use Rattle.std.specs.Prelude.{bit_and}
use Rattle.std.specs.List.{flat_map}
use mir.Syntax.{w8, w32}
use mir.Val.{Fits}
use Rattle.std.proofs.lemmas.Simd.{tops_compared, mask_l-mod, length-zip2}
use lib.Lanes.{Each1, zip2, number_l, digits_l, mask_l, top}
use Rattle.fx_base.specs.declared.color.Color.{Color}
use Rattle.fx_base.specs.Pixel.{blended, channel, pixel_of, red_of, green_of, blue_of}
use Rattle.fx_lanes.specs.Blending.{channels, packed_color, pixels_of}

-- four lanes for each of n
abbrev pub four : ℕ → ℕ
four zero = zero
four (suc n) = suc (suc (suc (suc (four n))))

-- ---- from pixels to channels

low_byte : (p n : ℕ) → p < 4294967296 → (p + 4294967296 * n) % 256 ≡ blue_of p
low_byte p n h = omega arith

second_byte : (p n : ℕ) → p < 4294967296 → (p + 4294967296 * n) / 256 % 256 ≡ green_of p
second_byte p n h = omega arith

third_byte : (p n : ℕ) → p < 4294967296 → (p + 4294967296 * n) / 256 / 256 % 256 ≡ red_of p
third_byte p n h = omega arith

top_byte : (p n : ℕ) → p < 4294967296 → (p + 4294967296 * n) / 256 / 256 / 256 % 256 ≡ p / 16777216 % 256
top_byte p n h = omega arith

past_bytes : (p n : ℕ) → p < 4294967296 → (p + 4294967296 * n) / 256 / 256 / 256 / 256 ≡ n
past_bytes p n h = omega arith

pub channels_are : (n : ℕ) (pixels : List ℕ) → length pixels ≡ n → Each1 (Fits w32) pixels → digits_l 256 (four n) (number_l 4294967296 pixels) ≡ flat_map channels pixels
channels_are zero [] l f = refl
channels_are zero (p ∷ ps) l f = absurd (omega arith)
channels_are (suc n) [] l f = absurd (omega arith)
channels_are (suc n) (p ∷ ps) l f =
    let fits : p < 4294967296 = f.0.fits in
    let m = number_l 4294967296 ps in
    let rest = channels_are n ps (omega arith) f.1 in
    rw (low_byte p m fits, second_byte p m fits, third_byte p m fits, top_byte p m fits, past_bytes p m fits)
    (ap (λ x. blue_of p ∷ green_of p ∷ red_of p ∷ (p / 16777216 % 256) ∷ x) rest)

-- ---- from channels to pixels

pixel_below : (b g r t n : ℕ) → b < 256 → g < 256 → r < 256 → t < 256 → (b + 256 * (g + 256 * (r + 256 * (t + 256 * n)))) % 4294967296 % 2 ^ 24 ≡ pixel_of r g b
pixel_below b g r t n hb hg hr ht = omega arith

past_pixel : (b g r t n : ℕ) → b < 256 → g < 256 → r < 256 → t < 256 → (b + 256 * (g + 256 * (r + 256 * (t + 256 * n)))) / 4294967296 ≡ n
past_pixel b g r t n hb hg hr ht = omega arith

pub pixels_are : (n : ℕ) (bytes : List ℕ) → length bytes ≡ four n → Each1 (Fits w8) bytes → map (λ x. bit_and x 16777215) (digits_l 4294967296 n (number_l 256 bytes)) ≡ pixels_of bytes
pixels_are zero [] l f = refl
pixels_are zero (b ∷ bytes) l f = absurd (omega arith)
pixels_are (suc n) [] l f = absurd (omega arith)
pixels_are (suc n) (b ∷ []) l f = absurd (omega arith)
pixels_are (suc n) (b ∷ g ∷ []) l f = absurd (omega arith)
pixels_are (suc n) (b ∷ g ∷ r ∷ []) l f = absurd (omega arith)
pixels_are (suc n) (b ∷ g ∷ r ∷ t ∷ bytes) l f =
    let fb : b < 256 = f.0.fits in
    let fg : g < 256 = f.1.0.fits in
    let fr : r < 256 = f.1.1.0.fits in
    let ft : t < 256 = f.1.1.1.0.fits in
    let m = number_l 256 bytes in
    let rest = pixels_are n bytes (omega arith) f.1.1.1.1 in
    rw (past_pixel b g r t m fb fg fr ft)
    (ap (λ x. x ∷ map (λ y. bit_and y 16777215) (digits_l 4294967296 n m))
    (and_mask ((b + 256 * (g + 256 * (r + 256 * (t + 256 * m)))) % 4294967296) 24 ∙ pixel_below b g r t m fb fg fr ft)
    ∙ ap (λ x. pixel_of r g b ∷ x) rest)

-- ---- a channel over a channel

sum_small : (o a u : ℕ) → o < 256 → a < 256 → u < 256 → o * a + u * (255 - a) + 127 < 65280
sum_small o a u ho ha hu =
    let over : o * a ≤ 255 * a = mul-le-mul_right a (omega arith) in
    let under : u * (255 - a) ≤ 255 * (255 - a) = mul-le-mul_right (255 - a) (omega arith) in
    omega arith

pub channel_small : (o a u : ℕ) → o < 256 → a < 256 → u < 256 → channel o a u < 256
unfolding channel
channel_small o a u ho ha hu = let s = sum_small o a u ho ha hu in omega arith

-- as lanes of sixteen bits have it
lane : (o a u : ℕ) → o < 256 → a < 256 → u < 256 → (((o * a) % 65536 + (u * (255 - a)) % 65536) % 65536 + 127) % 65536 / 255 ≡ channel o a u
unfolding channel
lane o a u ho ha hu = let s = sum_small o a u ho ha hu in omega arith

abbrev pub sums : ℕ → ℕ → List ℕ → List ℕ → List ℕ
sums n a over under =
    zip2 (λ x y. (x + y) % 65536)
    (zip2 (λ x y. (x + y) % 65536) (zip2 (λ x y. (x * y) % 65536) over (replicate n a)) (zip2 (λ x y. (x * y) % 65536) under (replicate n (255 - a))))
    (replicate n 127)

pub lanes_are : (n a : ℕ) (over under : List ℕ) → length over ≡ n → length under ≡ n → a < 256 → Each1 (λ c. c < 256) over → Each1 (λ c. c < 256) under
    → map (λ x. x) (zip2 (λ x y. x / y) (sums n a over under) (replicate n 255)) ≡ zip2 (λ o u. channel o a u) over under
lanes_are zero a [] under l m ha fo fu = refl
lanes_are zero a (o ∷ over) under l m ha fo fu = absurd (omega arith)
lanes_are (suc n) a [] under l m ha fo fu = absurd (omega arith)
lanes_are (suc n) a (o ∷ over) [] l m ha fo fu = absurd (omega arith)
lanes_are (suc n) a (o ∷ over) (u ∷ under) l m ha fo fu =
    let rest = lanes_are n a over under (omega arith) (omega arith) ha fo.1 fu.1 in
    ap (λ x. x ∷ map (λ y. y) (zip2 (λ y z. y / z) (sums n a over under) (replicate n 255))) (lane o a u fo.0 ha fu.0)
    ∙ ap (λ x. channel o a u ∷ x) rest

pub lanes_fit : (n a : ℕ) (over under : List ℕ) → length over ≡ n → length under ≡ n → a < 256 → Each1 (λ c. c < 256) over → Each1 (λ c. c < 256) under
    → Each1 (Fits w8) (zip2 (λ x y. x / y) (sums n a over under) (replicate n 255))
lanes_fit zero a [] under l m ha fo fu = tt
lanes_fit zero a (o ∷ over) under l m ha fo fu = absurd (omega arith)
lanes_fit (suc n) a [] under l m ha fo fu = absurd (omega arith)
lanes_fit (suc n) a (o ∷ over) [] l m ha fo fu = absurd (omega arith)
lanes_fit (suc n) a (o ∷ over) (u ∷ under) l m ha fo fu =
    let small = channel_small o a u fo.0 ha fu.0 in
    (record { fits = (let e = lane o a u fo.0 ha fu.0 in omega arith) }, lanes_fit n a over under (omega arith) (omega arith) ha fo.1 fu.1)

-- ---- a block of pixels

pub block_is : (n color : ℕ) (pixels : List ℕ) → length pixels ≡ n
    → pixels_of (zip2 (λ o u. channel o (color % 256) u) (flat_map channels (replicate n (color / 256))) (flat_map channels pixels)) ≡ map (blended (packed_color color)) pixels
unfolding blended
block_is zero color [] l = refl
block_is zero color (p ∷ ps) l = absurd (omega arith)
block_is (suc n) color [] l = absurd (omega arith)
block_is (suc n) color (p ∷ ps) l = ap (λ x. blended (packed_color color) p ∷ x) (block_is n color ps (omega arith))

pub one_is : (color under : ℕ)
    → pixel_of (channel (red_of (color / 256)) (color % 256) (red_of under)) (channel (green_of (color / 256)) (color % 256) (green_of under)) (channel (blue_of (color / 256)) (color % 256) (blue_of under)) ≡ blended (packed_color color) under
unfolding blended
one_is color under = refl

-- ---- all lanes the same

pub same_from_mask : (n : ℕ) (a b : List ℕ) → length a ≡ n → length b ≡ n → mask_l (zip2 eqb a b) + 1 ≡ 2 ^ n → a ≡ b
same_from_mask zero [] [] l m h = refl
same_from_mask zero [] (y ∷ b) l m h = absurd (omega arith)
same_from_mask zero (x ∷ a) b l m h = absurd (omega arith)
same_from_mask (suc n) [] b l m h = absurd (omega arith)
same_from_mask (suc n) (x ∷ a) [] l m h = absurd (omega arith)
same_from_mask (suc n) (x ∷ a) (y ∷ b) l m h =
    let p : 2 ^ suc n ≡ 2 ^ n * 2 = pow-suc 2 n in
    elim (eqb_tells x y) [
      | inl t ↦ ap (λ z. z ∷ a) t.1 ∙ ap (λ z. y ∷ z) (same_from_mask n a b (omega arith) (omega arith) (let h' = rw t.0 at h in omega arith))
      | inr t ↦ absurd (let h' = rw t.0 at h in omega arith)
    ]

pub mask_from_same : (n : ℕ) (a : List ℕ) → length a ≡ n → mask_l (zip2 eqb a a) + 1 ≡ 2 ^ n
mask_from_same zero [] l = refl
mask_from_same zero (x ∷ a) l = absurd (omega arith)
mask_from_same (suc n) [] l = absurd (omega arith)
mask_from_same (suc n) (x ∷ a) l =
    let p : 2 ^ suc n ≡ 2 ^ n * 2 = pow-suc 2 n in
    let rest = mask_from_same n a (omega arith) in
    rw (eq-eqb x x refl) (omega arith)

-- the mask of thirty-two lanes that are compared
pub mask_is : (a b : List ℕ) → length a ≡ 32 → length b ≡ 32 → mask_l (map (top 31) (zip2 (λ x y. cond (eqb x y) 4294967295 0) a b)) % 2 ^ 64 ≡ mask_l (zip2 eqb a b)
mask_is a b l m =
    ap (λ ms. mask_l ms % 2 ^ 64) (tops_compared w32 eqb a b)
    ∙ mask_l-mod (zip2 eqb a b) 64 (let same : length a ≡ length b = l ∙ sym m in let n = length-zip2 eqb a b same in omega arith)

pub same_lanes : (a b : List ℕ) → length a ≡ 32 → length b ≡ 32 → mask_l (map (top 31) (zip2 (λ x y. cond (eqb x y) 4294967295 0) a b)) % 2 ^ 64 ≡ 4294967295 → a ≡ b
same_lanes a b l m e = let mask = sym (mask_is a b l m) ∙ e in same_from_mask 32 a b l m (ap (λ n. n + 1) mask)

pub lanes_same : (a b : List ℕ) → length a ≡ 32 → length b ≡ 32 → a ≡ b → mask_l (map (top 31) (zip2 (λ x y. cond (eqb x y) 4294967295 0) a b)) % 2 ^ 64 ≡ 4294967295
lanes_same a b l m e =
    mask_is a b l m ∙ ap (λ x. mask_l (zip2 eqb a x)) (sym e) ∙ (let full : mask_l (zip2 eqb a a) + 1 ≡ 4294967296 = mask_from_same 32 a l in omega arith)

-- a packed colour is unpacked
pub unpacked : (r g b a : ℕ) → r < 256 → g < 256 → b < 256 → a < 256 → packed_color (r * 16777216 + g * 65536 + b * 256 + a) ≡ record { r = r; g = g; b = b; a = a }
unpacked r g b a hr hg hb ha =
    let n = r * 16777216 + g * 65536 + b * 256 + a in
    let er : red_of (n / 256) ≡ r = omega arith in
    let eg : green_of (n / 256) ≡ g = omega arith in
    let eb : blue_of (n / 256) ≡ b = omega arith in
    let ea : n % 256 ≡ a = omega arith in
    let made : ℕ → ℕ → ℕ → ℕ → Color = λ x y z w. record { r = x; g = y; b = z; a = w } in
    ap (λ x. made x (green_of (n / 256)) (blue_of (n / 256)) (n % 256)) er
    ∙ ap (λ y. made r y (blue_of (n / 256)) (n % 256)) eg
    ∙ ap (λ z. made r g z (n % 256)) eb
    ∙ ap (λ w. made r g b w) ea
