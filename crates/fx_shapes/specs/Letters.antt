-- The lines of a text as letters in the content of a node: JavaFX 21 API, javafx.scene.control.Labeled.
use Rattle.std.specs.Prelude.{◌≡◌, ◌≤◌, ℕ, Bool, pos, ◌+◌, ◌*◌, ◌/◌, ◌%◌, ◌+ℤ◌, List, [], ◌∷◌, MatchBool, chars, length, map, max, slice_range}
use Rattle.std.specs.Int.{int_max}
use Rattle.std.specs.List.{enumerate_from}
use Rattle.std.specs.Str.{IsCharBoundary}
use Rattle.fx_base.specs.declared.geometry.Rect.{Rect}
use Rattle.fx_base.specs.declared.geometry.Sides.{Sides}
use Rattle.fx_boxes.specs.Controls.{scale_of}
use Rattle.fx_cells.specs.Columns.{cells_of}
use Rattle.fx_cells.specs.Wrapping.{IsWrapping}
use Rattle.fx_insets.specs.Insets.{insets_of}
use Rattle.fx_look.specs.declared.looks.Look.{Look}
use Rattle.fx_panes_parts.specs.Lengths.{aligned}
use Rattle.fx_picture.specs.Shapes.{whole}
use Rattle.fx_picture.specs.declared.shapes.Shape.{Shape}
use Rattle.fx_picture.specs.declared.shapes.Shape.TheVariants.{Letters}
use Rattle.fx_shapes.specs.declared.letters.Block.{Block}
use Rattle.fx_shapes.specs.Layers.{shrunk}

-- a rectangle with nothing in the place of a length below 0
unfoldable pub filled : Rect → Rect
filled r = record { x = r.x; y = r.y; w = int_max (pos 0) r.w; h = int_max (pos 0) r.h }

-- a rectangle less its insets, which may be nothing
abbrev pub content_of : Rect → Sides → Rect
content_of r s = filled (shrunk r s)

-- so many lines of the text of a node
unfoldable pub block_of : Look → Rect → ℕ → Block
block_of look r count = record {
  clip = content_of r (insets_of look);
  scale = scale_of look.font_size;
  alignment = look.alignment;
  color = look.text_fill;
  count = count;
}

-- how many cells a line has room for, but at least one
abbrev pub columns_of : Rect → ℕ → ℕ
columns_of clip scale = max 1 (whole clip.w / (4 * scale))

-- a line of a block: the block is aligned as one in the content's height, and each line by itself in its width
unfoldable pub line_at : Block → ℕ × List ℕ → Shape
line_at b line = Letters
    (b.clip.x +ℤ pos (aligned (b.alignment % 3) (4 * cells_of (chars line.1) * b.scale) (whole b.clip.w)))
    (b.clip.y +ℤ pos (aligned (b.alignment / 3) (6 * b.count * b.scale) (whole b.clip.h) + 6 * line.0 * b.scale))
    (pos b.scale) line.1 b.clip b.color

-- the text between two of its bytes
abbrev pub line_of : List ℕ → ℕ × ℕ → List ℕ
line_of text range = slice_range text range.0 range.1

abbrev pub lines_of : Block → List (List ℕ) → List Shape
lines_of block lines = map (line_at block) (enumerate_from 0 lines)

-- the text has these lines, as ranges of its bytes: one, unless it is wrapped at so many cells
abbrev pub HasLines : Bool → ℕ → List ℕ → List (ℕ × ℕ) → Type 0
HasLines wrap columns text ranges =
    MatchBool wrap (IsWrapping columns (chars text) ranges) (ranges ≡ (0, length text) ∷ [])

-- the letters of a text with these lines
abbrev pub letters_of : Look → Rect → List ℕ → List (ℕ × ℕ) → List Shape
letters_of look r text ranges = lines_of (block_of look r (length ranges)) (map (line_of text) ranges)

-- a range of bytes of a text that stands between characters
pub record IsPiece (text : List ℕ) (range : ℕ × ℕ) : Type 0 where
  pub order : range.0 ≤ range.1
  pub start : IsCharBoundary text range.0
  pub end : IsCharBoundary text range.1
