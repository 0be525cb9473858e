-- A text that isn't wrapped has one line, which is all of it.
use Rattle.std.proofs.Common.{◌≡◌, ◌-◌, ◌++◌, ◌∷◌, [], ℕ, List, false, length, take, arith, refl, sym, ap, ◌∙◌, append_assoc}
use Rattle.std.specs.List.{slice_range}
use Rattle.std.proofs.Math.Seq.{take-length}
use Rattle.fx_base.specs.declared.geometry.Rect.{Rect}
use Rattle.fx_look.specs.declared.looks.Look.{Look}
use Rattle.fx_picture.specs.declared.shapes.Shape.{Shape}
use Rattle.fx_shapes.specs.declared.letters.Block.{Block}
use Rattle.fx_shapes.specs.Drawings.{IsTextDrawing, shown}
use Rattle.fx_shapes.specs.Layers.{backgrounds, borders}
use Rattle.fx_shapes.specs.Letters.{block_of, line_at}

range_whole : (text : List ℕ) → slice_range text 0 (length text) ≡ text
range_whole text = let all : length text - 0 ≡ length text = omega arith in ap (λ n. take n text) all ∙ take-length text

pub whole_drawn : (look : Look) (r : Rect) (text line : List ℕ) (before shapes : List Shape) (block : Block) → look.wrap_text ≡ false
    → before ≡ shown (backgrounds look r) ++ shown (borders look r) → block ≡ block_of look r 1 → line ≡ text
    → shapes ≡ before ++ shown (line_at block (0, line) ∷ []) → IsTextDrawing look r text shapes
whole_drawn look r text line before shapes block off fills block_is line_is is =
    let backs = shown (backgrounds look r) in
    let fronts = shown (borders look r) in
    let drawn : Block → List ℕ → List Shape = λ b t. shown (line_at b (0, t) ∷ []) in
    record {
      ranges = (0, length text) ∷ [];
      lines = rw off refl;
      drawn = is
          ∙ (ap (λ l. l ++ drawn block line) fills
          ∙ (append_assoc backs fronts (drawn block line)
          ∙ (ap (λ b. backs ++ (fronts ++ drawn b line)) block_is
          ∙ ap (λ t. backs ++ (fronts ++ drawn (block_of look r 1) t)) (line_is ∙ sym (range_whole text)))));
    }
