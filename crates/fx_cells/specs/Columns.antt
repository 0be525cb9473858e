-- The cells of a character and of a text.
-- Cited by src/columns.rt, src/wrapping.rt and the crates above.
use Rattle.std.specs.Prelude.{ℕ, List, false, sum_by, unwrap_or}
use Rattle.unicode_width.specs.Width.{char_width}

-- the cells of a character that stands by itself; none for a control character
abbrev pub cell_width : ℕ → ℕ
cell_width c = unwrap_or (char_width false c) 0

-- the cells of the characters of a text
abbrev pub cells_of : List ℕ → ℕ
cells_of text = sum_by cell_width text
