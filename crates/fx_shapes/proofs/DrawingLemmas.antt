-- A look has one list of shapes in a rectangle, since a text has one list of lines.
use Rattle.std.proofs.Common.{◌≡◌, ◌++◌, ℕ, Bool, true, false, List, Some, None, sym, ap, ◌∙◌}
use Rattle.std.specs.Prelude.{chars}
use Rattle.fx_boxes.specs.Controls.{scale_of}
use Rattle.fx_cells.proofs.Cutting.{one_wrapping_of}
use Rattle.fx_insets.specs.Insets.{insets_of}
use Rattle.fx_shapes.specs.Drawings.{OneDrawing, shown}
use Rattle.fx_shapes.specs.Layers.{backgrounds, borders}
use Rattle.fx_shapes.specs.Letters.{HasLines, columns_of, content_of, letters_of}

one_lines : (wrap : Bool) (columns : ℕ) (text : List ℕ) (one another : List (ℕ × ℕ))
    → HasLines wrap columns text one → HasLines wrap columns text another → one ≡ another
one_lines true columns text one another p q = one_wrapping_of columns (chars text) one another p q
one_lines false columns text one another p q = p ∙ sym q

pub one_drawing : OneDrawing
one_drawing look r None one another p q = p ∙ sym q
one_drawing look r (Some text) one another p q =
    let ranges = one_lines look.wrap_text (columns_of (content_of r (insets_of look)) (scale_of look.font_size)) text p.ranges q.ranges p.lines q.lines in
    p.drawn
    ∙ (ap (λ rs. shown (backgrounds look r) ++ (shown (borders look r) ++ shown (letters_of look r text rs))) ranges
    ∙ sym q.drawn)
