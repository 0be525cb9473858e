-- Pixels in a picture: what stays when the same are put there, and the image row by row.
use Rattle.std.proofs.Common.{◌≡◌, ◌+◌, suc, zero, ℕ, true, List, [], ◌∷◌, ◌++◌, length, take, drop, sym, ◌∙◌, ap, arith, append_assoc, append-nil}
use Rattle.std.specs.List.{flat_map, range_with_len}
use Rattle.std.proofs.lemmas.List.{take-append-drop, drop-drop}
use Rattle.std.proofs.lemmas.Grind.{flat_map-append}
use Rattle.std.proofs.lemmas.Slice.Eq.{bytes_eq-Decides}
use Rattle.fx_delta.specs.Pictures.{Picture, row_of, shows, start_of, with_pixels}
use Rattle.fx_row_text.specs.Rows.{row_text}

-- what stands there already is put there
same_put : (start : ℕ) (all part : List ℕ) → take (length part) (drop start all) ≡ part
    → all ≡ take start all ++ (part ++ drop (start + length part) all)
same_put start all part e =
    sym (take-append-drop start all)
    ∙ ap (λ (l : List ℕ). take start all ++ l)
    (sym (take-append-drop (length part) (drop start all))
    ∙ (ap (λ (l : List ℕ). l ++ drop (length part) (drop start all)) e
    ∙ ap (λ (l : List ℕ). part ++ l) (drop-drop (length part) start all)))

pub with_pixels-same : (picture : Picture) (x y : ℕ) (pixels : List ℕ) → shows picture x y pixels ≡ true → picture ≡ with_pixels picture x y pixels
with_pixels-same picture x y pixels e =
    ap (λ (l : List ℕ). record picture { pixels = l })
    (same_put (start_of picture x y) picture.pixels pixels ((bytes_eq-Decides _ _).0 e))

-- the first rows as text
abbrev pub rows_text : Picture → ℕ → List ℕ
rows_text picture count = flat_map (λ y. row_text (row_of picture y)) (range_with_len 0 count)

range_more : (from count : ℕ) → range_with_len from (suc count) ≡ range_with_len from count ++ ((from + count) ∷ [])
range_more from zero = ap (λ (n : ℕ). n ∷ []) (omega arith)
range_more from (suc count) = ap (λ (l : List ℕ). from ∷ l) (range_more (from + 1) count ∙ ap (λ (n : ℕ). range_with_len (from + 1) count ++ (n ∷ [])) (omega arith))

-- one row more
pub rows_text-more : (picture : Picture) (y : ℕ) (old mid new : List ℕ) → mid ≡ old ++ rows_text picture y
    → new ≡ mid ++ row_text (row_of picture y) → new ≡ old ++ rows_text picture (y + 1)
rows_text-more picture y old mid new before more =
    let text : ℕ → List ℕ = λ y. row_text (row_of picture y) in
    let one : y + 1 ≡ suc y = omega arith in
    let is : rows_text picture (y + 1) ≡ rows_text picture y ++ text y =
    ap (rows_text picture) one ∙ ap (flat_map text) (range_more 0 y) ∙ flat_map-append text (range_with_len 0 y) ((0 + y) ∷ [])
    ∙ ap (λ (l : List ℕ). rows_text picture y ++ l) (ap (λ (n : ℕ). text n ++ []) (omega arith) ∙ append-nil (text y)) in
    more ∙ ap (λ (l : List ℕ). l ++ text y) before ∙ append_assoc old (rows_text picture y) (text y) ∙ ap (λ (l : List ℕ). old ++ l) (sym is)
