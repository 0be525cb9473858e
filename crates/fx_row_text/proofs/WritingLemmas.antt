-- A text that is written pixel by pixel.
use Rattle.std.proofs.Common.{◌≡◌, ◌≤◌, ◌<◌, ◌+◌, ◌*◌, ℕ, List, ◌∷◌, ◌++◌, length, take, drop, replicate, sym, ◌∙◌, ap, arith}
use Rattle.std.proofs.Math.Seq.{take-append-add}
use Rattle.std.proofs.lemmas.Grind.{flat_map-append}
use Rattle.std.proofs.lemmas.List.{length-take-le, take-append-le}
use Rattle.std.proofs.lemmas.Simd.{put_chunk_is}
use lib.Lanes.{put_chunk}
use Rattle.fx_lanes.proofs.Rows.{take-add}
use Rattle.fx_text.specs.Characters.{space}
use Rattle.fx_row_text.specs.Rows.{pixel_text, spaced_text}
use Rattle.fx_row_text.specs.Writing.{IsWritten}

abbrev spaced : ℕ → List ℕ
spaced pixel = space ∷ pixel_text pixel

-- a word of eight bytes, of which seven stay
pub word_written : (text word : List ℕ) (at pixel : ℕ) → length word ≡ 8 → take 7 word ≡ space ∷ pixel_text pixel
    → 7 * (at + 1) < length text
    → take (7 * (at + 1)) (put_chunk (7 * at) text word) ≡ take (7 * at) text ++ (space ∷ pixel_text pixel)
word_written text word at pixel long tells room =
    let front = take (7 * at) text in
    let fits : 7 * at + length word ≤ length text = omega arith in
    let before : length (take (7 * at) text) ≡ 7 * at = length-take-le (7 * at) text (omega arith) in
    let split : 7 * (at + 1) ≡ length (take (7 * at) text) + 7 = omega arith in
    ap (λ l. take (7 * (at + 1)) l) (put_chunk_is (7 * at) text word fits)
    ∙ (ap (λ n. take n (front ++ (word ++ drop (length word) (drop (7 * at) text)))) split
    ∙ (take-append-add front (word ++ drop (length word) (drop (7 * at) text)) 7
    ∙ ap (λ l. front ++ l) (take-append-le 7 word (drop (length word) (drop (7 * at) text)) (omega (arith, long)) ∙ tells)))

-- so many equal pixels more
pub more_written : (old new row : List ℕ) (at count pixel : ℕ) → IsWritten old row at → at + count ≤ length row
    → take count (drop at row) ≡ replicate count pixel → length new ≡ length old
    → take (7 * (at + count)) new ≡ take (7 * at) old ++ spaced_text (replicate count pixel)
    → IsWritten new row (at + count)
more_written old new row at count pixel is room run long front =
    record {
      within = room;
      long = long ∙ is.long;
      front =
          front
          ∙ (ap (λ l. l ++ spaced_text (replicate count pixel)) is.front
          ∙ (ap (λ l. spaced_text (take at row) ++ spaced_text l) (sym run)
          ∙ (sym (flat_map-append (λ p. spaced p) (take at row) (take count (drop at row)))
          ∙ ap (λ l. spaced_text l) (sym (take-add at count row)))));
    }
