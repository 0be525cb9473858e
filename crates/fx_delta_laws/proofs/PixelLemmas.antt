-- Pixels as text are read as what they are.
use Rattle.std.proofs.Common.{◌≡◌, ◌<◌, ◌+◌, ◌*◌, ◌/◌, ◌%◌, ◌^◌, ℕ, zero, suc, Bool, true, false, ◌&&◌, ltb, List, [], ◌∷◌, ◌++◌, map, Option, Some, All, refl, ap, ◌∙◌, arith}
use Rattle.std.specs.Fmt.{digit_glyph}
use Rattle.std.specs.Option.{option_and_then, option_map}
use Rattle.std.proofs.lemmas.List.Elements.{All-head, All-tail}
use Rattle.std.proofs.lemmas.List.Splits.{slice_split_at, slice_split_none}
use Rattle.fx_text.specs.Characters.{space}
use Rattle.fx_text.specs.Classes.{hex_value, is_space}
use Rattle.fx_base.specs.Pixel.{blue_of, green_of, red_of}
use Rattle.fx_base.specs.Printing.{two_digits}
use Rattle.fx_delta.specs.Lines.{byte_of, pixel_of, pixels_of, words}
use Rattle.fx_row_text.specs.Rows.{pixel_text, pixels_text}
use Rattle.fx_delta_laws.proofs.NumberLemmas.{above-append, are_above, none_at}

below_16 : (P : ℕ → Type 0) → P 0 → P 1 → P 2 → P 3 → P 4 → P 5 → P 6 → P 7 → P 8 → P 9 → P 10 → P 11 → P 12 → P 13
    → P 14 → P 15 → (d : ℕ) → d < 16 → P d
below_16 P p0 p1 p2 p3 p4 p5 p6 p7 p8 p9 p10 p11 p12 p13 p14 p15 zero h = p0
below_16 P p0 p1 p2 p3 p4 p5 p6 p7 p8 p9 p10 p11 p12 p13 p14 p15 (suc zero) h = p1
below_16 P p0 p1 p2 p3 p4 p5 p6 p7 p8 p9 p10 p11 p12 p13 p14 p15 (suc (suc zero)) h = p2
below_16 P p0 p1 p2 p3 p4 p5 p6 p7 p8 p9 p10 p11 p12 p13 p14 p15 (suc (suc (suc zero))) h = p3
below_16 P p0 p1 p2 p3 p4 p5 p6 p7 p8 p9 p10 p11 p12 p13 p14 p15 (suc (suc (suc (suc zero)))) h = p4
below_16 P p0 p1 p2 p3 p4 p5 p6 p7 p8 p9 p10 p11 p12 p13 p14 p15 (suc (suc (suc (suc (suc zero))))) h = p5
below_16 P p0 p1 p2 p3 p4 p5 p6 p7 p8 p9 p10 p11 p12 p13 p14 p15 (suc (suc (suc (suc (suc (suc zero)))))) h = p6
below_16 P p0 p1 p2 p3 p4 p5 p6 p7 p8 p9 p10 p11 p12 p13 p14 p15 (suc (suc (suc (suc (suc (suc (suc zero))))))) h = p7
below_16 P p0 p1 p2 p3 p4 p5 p6 p7 p8 p9 p10 p11 p12 p13 p14 p15 (suc (suc (suc (suc (suc (suc (suc (suc zero)))))))) h = p8
below_16 P p0 p1 p2 p3 p4 p5 p6 p7 p8 p9 p10 p11 p12 p13 p14 p15 (suc (suc (suc (suc (suc (suc (suc (suc (suc zero))))))))) h = p9
below_16 P p0 p1 p2 p3 p4 p5 p6 p7 p8 p9 p10 p11 p12 p13 p14 p15 (suc (suc (suc (suc (suc (suc (suc (suc (suc (suc zero)))))))))) h = p10
below_16 P p0 p1 p2 p3 p4 p5 p6 p7 p8 p9 p10 p11 p12 p13 p14 p15 (suc (suc (suc (suc (suc (suc (suc (suc (suc (suc (suc zero))))))))))) h = p11
below_16 P p0 p1 p2 p3 p4 p5 p6 p7 p8 p9 p10 p11 p12 p13 p14 p15 (suc (suc (suc (suc (suc (suc (suc (suc (suc (suc (suc (suc zero)))))))))))) h = p12
below_16 P p0 p1 p2 p3 p4 p5 p6 p7 p8 p9 p10 p11 p12 p13 p14 p15 (suc (suc (suc (suc (suc (suc (suc (suc (suc (suc (suc (suc (suc zero))))))))))))) h = p13
below_16 P p0 p1 p2 p3 p4 p5 p6 p7 p8 p9 p10 p11 p12 p13 p14 p15 (suc (suc (suc (suc (suc (suc (suc (suc (suc (suc (suc (suc (suc (suc zero)))))))))))))) h = p14
below_16 P p0 p1 p2 p3 p4 p5 p6 p7 p8 p9 p10 p11 p12 p13 p14 p15 (suc (suc (suc (suc (suc (suc (suc (suc (suc (suc (suc (suc (suc (suc (suc zero))))))))))))))) h = p15
below_16 P p0 p1 p2 p3 p4 p5 p6 p7 p8 p9 p10 p11 p12 p13 p14 p15 (suc (suc (suc (suc (suc (suc (suc (suc (suc (suc (suc (suc (suc (suc (suc (suc n)))))))))))))))) h = absurd (omega (arith, h))

glyph_value : (d : ℕ) → d < 16 → hex_value (digit_glyph false d) ≡ Some d
glyph_value d h =
    below_16 (λ d. hex_value (digit_glyph false d) ≡ Some d) refl refl refl refl refl refl refl refl refl refl refl refl
    refl refl refl refl d h

glyph_above : (d : ℕ) → d < 16 → ltb 32 (digit_glyph false d) ≡ true
glyph_above d h =
    below_16 (λ d. ltb 32 (digit_glyph false d) ≡ true) refl refl refl refl refl refl refl refl refl refl refl refl refl
    refl refl refl d h

byte_value : (n : ℕ) → n < 256 → byte_of (digit_glyph false (n / 16)) (digit_glyph false (n % 16)) ≡ Some n
byte_value n h =
    ap (option_and_then (λ high. option_map (λ low. 16 * high + low) (hex_value (digit_glyph false (n % 16)))))
    (glyph_value (n / 16) (omega arith))
    ∙ ap (option_map (λ low. 16 * (n / 16) + low)) (glyph_value (n % 16) (omega arith))
    ∙ ap Some (omega arith)

channels : (p : ℕ) → p < 2 ^ 24 → red_of p * 65536 + green_of p * 256 + blue_of p ≡ p
channels p h =
    let low : p ≡ (p / 256) * 256 + p % 256 = omega arith in
    let high : p / 65536 ≡ (p / 256) / 256 = omega arith in
    let mid : p / 256 ≡ ((p / 256) / 256) * 256 + (p / 256) % 256 = omega arith in
    let top : (p / 65536) % 256 ≡ p / 65536 = omega arith in
    omega (arith, low, high, mid, top)

pub pixel_of-text : (p : ℕ) → p < 2 ^ 24 → pixel_of (pixel_text p) ≡ Some p
unfolding pixel_text
pixel_of-text p h =
    let red = byte_of (digit_glyph false (red_of p / 16)) (digit_glyph false (red_of p % 16)) in
    let green = byte_of (digit_glyph false (green_of p / 16)) (digit_glyph false (green_of p % 16)) in
    let blue = byte_of (digit_glyph false (blue_of p / 16)) (digit_glyph false (blue_of p % 16)) in
    ap
    (λ (o : Option ℕ). option_and_then
    (λ r. option_and_then (λ g. option_map (λ b. r * 65536 + g * 256 + b) blue) green) o)
    (byte_value (red_of p) (omega arith))
    ∙ ap
    (λ (o : Option ℕ). option_and_then (λ g. option_map (λ b. red_of p * 65536 + g * 256 + b) blue) o)
    (byte_value (green_of p) (omega arith))
    ∙ ap (option_map (λ b. red_of p * 65536 + green_of p * 256 + b)) (byte_value (blue_of p) (omega arith))
    ∙ ap Some (channels p h)

pub pixels_of-texts : (ps : List ℕ) → All (λ p. p < 2 ^ 24) ps → pixels_of (map pixel_text ps) ≡ Some ps
pixels_of-texts [] all = refl
pixels_of-texts (p ∷ ps) all =
    ap
    (λ (o : Option ℕ). option_and_then
    (λ pixel. option_map (λ more. pixel ∷ more) (pixels_of (map pixel_text ps))) o)
    (pixel_of-text p (All-head (λ p. p < 2 ^ 24) p ps all))
    ∙ ap (option_map (λ more. p ∷ more)) (pixels_of-texts ps (All-tail (λ p. p < 2 ^ 24) p ps all))

two_above : (n : ℕ) → n < 256 → are_above 32 (two_digits n) ≡ true
two_above n h =
    ap (λ (t : Bool). t && (ltb 32 (digit_glyph false (n % 16)) && true)) (glyph_above (n / 16) (omega arith))
    ∙ ap (λ (t : Bool). t && true) (glyph_above (n % 16) (omega arith))

pub above-pixel : (p : ℕ) → are_above 32 (pixel_text p) ≡ true
unfolding pixel_text
above-pixel p =
    above-append 32 (two_digits (red_of p)) (two_digits (green_of p) ++ two_digits (blue_of p))
    (two_above (red_of p) (omega arith))
    (above-append 32 (two_digits (green_of p)) (two_digits (blue_of p)) (two_above (green_of p) (omega arith))
    (two_above (blue_of p) (omega arith)))

-- the pixels of a row are its words
pub words-pixels : (p : ℕ) (ps : List ℕ) → words (pixels_text (p ∷ ps)) ≡ map pixel_text (p ∷ ps)
words-pixels p [] = slice_split_none is_space (pixel_text p) (none_at 32 32 (omega arith) (pixel_text p) (above-pixel p))
words-pixels p (q ∷ qs) =
    slice_split_at is_space (pixel_text p) space (pixels_text (q ∷ qs))
    (none_at 32 32 (omega arith) (pixel_text p) (above-pixel p)) refl
    ∙ ap (λ (rest : List (List ℕ)). pixel_text p ∷ rest) (words-pixels q qs)
