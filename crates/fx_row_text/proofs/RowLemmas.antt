-- The text of a row by its first pixel and the others, and how long it is.
use Rattle.std.proofs.Common.{◌≡◌, ◌≤◌, ◌<◌, ◌-◌, ◌*◌, suc, ℕ, List, [], ◌∷◌, ◌++◌, length, get_or, set, take, drop, map, refl, sym, ◌∙◌, ap, append_assoc, append-nil, arith, length-append}
use Rattle.std.specs.List.{flat_map, join_with_byte}
use Rattle.std.proofs.Math.Seq.{take_all}
use Rattle.fx_text.specs.Characters.{line_feed, space}
use Rattle.fx_row_text.specs.Rows.{pixel_text, row_text, spaced_text}

-- pieces joined by a byte: the first, and each other one behind the byte
pub join-cons : (byte : ℕ) (text : ℕ → List ℕ) (x : ℕ) (xs : List ℕ)
    → join_with_byte byte (map text (x ∷ xs)) ≡ text x ++ flat_map (λ p. byte ∷ text p) xs
join-cons byte text x [] = sym (append-nil (text x))
join-cons byte text x (y ∷ xs) = ap (λ l. text x ++ (byte ∷ l)) (join-cons byte text y xs)

row_parts : (x : ℕ) (xs : List ℕ) → row_text (x ∷ xs) ≡ pixel_text x ++ (spaced_text xs ++ (line_feed ∷ []))
unfolding row_text
row_parts x xs =
    ap (λ l. l ++ (line_feed ∷ [])) (join-cons space pixel_text x xs)
    ∙ append_assoc (pixel_text x) (spaced_text xs) (line_feed ∷ [])

-- a row by its first pixel and the others
pub row_by_first : (row : List ℕ) → 1 ≤ length row
    → row_text row ≡ pixel_text (get_or row 0 0) ++ (spaced_text (take (length row - 1) (drop 1 row)) ++ (line_feed ∷ []))
row_by_first [] h = absurd (omega arith)
row_by_first (x ∷ xs) h =
    let all : take (suc (length xs) - 1) xs ≡ xs = take_all (suc (length xs) - 1) xs (omega arith) in
    row_parts x xs ∙ ap (λ l. pixel_text x ++ (spaced_text l ++ (line_feed ∷ []))) (sym all)

pub pixel_length : (pixel : ℕ) → length (pixel_text pixel) ≡ 6
unfolding pixel_text
pixel_length pixel = refl

pub spaced_length : (row : List ℕ) → length (spaced_text row) ≡ 7 * length row
spaced_length [] = refl
spaced_length (x ∷ xs) =
    let rest = spaced_length xs in
    let one = pixel_length x in
    let both = length-append (pixel_text x) (spaced_text xs) in
    omega arith

-- seven bytes a pixel
pub row_length : (row : List ℕ) → 1 ≤ length row → length (row_text row) ≡ 7 * length row
row_length [] h = absurd (omega arith)
row_length (x ∷ xs) h =
    let parts = ap (λ (l : List ℕ). length l) (row_parts x xs) in
    let first = length-append (pixel_text x) (spaced_text xs ++ (line_feed ∷ [])) in
    let second = length-append (spaced_text xs) (line_feed ∷ []) in
    let rest = spaced_length xs in
    let one = pixel_length x in
    omega arith

-- a row without pixels is a line feed
pub empty_row : (row : List ℕ) → length row < 1 → row_text row ≡ line_feed ∷ []
unfolding row_text
empty_row [] h = refl
empty_row (x ∷ xs) h = absurd (omega arith)

one_byte : (text : List ℕ) → length text ≡ 1 → set text 0 line_feed ≡ line_feed ∷ []
one_byte [] h = absurd (omega (arith, h))
one_byte (x ∷ []) h = refl
one_byte (x ∷ y ∷ ys) h = absurd (omega (arith, h))

pub only_line_feed : (text row : List ℕ) → length row < 1 → length text ≡ length (row_text row) → set text 0 line_feed ≡ row_text row
only_line_feed text row none long =
    let one = ap (λ (l : List ℕ). length l) (empty_row row none) in
    one_byte text (omega (arith, one, long)) ∙ sym (empty_row row none)
