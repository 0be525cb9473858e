-- What painting does to one row: the dots are laid over once each, and counted.
use Rattle.std.specs.Prelude.{◌≡◌, ◌<◌, ◌≤◌, ℕ, ℤ, pos, Bool, ◌&&◌, ◌||◌, ◌+◌, ◌-◌, ◌*◌, ◌/◌, ◌+ℤ◌, ◌-ℤ◌, ◌≤ℤ◌, List, count_by, length, nat_le, nat_lt, slice_index, if◌then◌else◌}
use Rattle.std.specs.List.{range_with_len}
use Rattle.fx_base.specs.Pixel.{blended}
use Rattle.fx_base.specs.declared.color.Color.{Color}
use Rattle.fx_pens.specs.declared.parts.Edges.{Edges}
use Rattle.fx_pens.specs.declared.runs.Bits.{Bits}
use Rattle.fx_pens.specs.declared.spans.Pen.{Pen}
use Rattle.fx_pens.specs.declared.stamps.Runs.{Runs}
use Rattle.fx_pens.specs.declared.stamps.Stamp.{Stamp}
use Rattle.fx_cells.specs.Columns.{cell_width, cells_of}
use Rattle.fx_cells.specs.Font.{glyph_of}
use Rattle.fx_picture.specs.Bounds.{in_range}
use Rattle.fx_picture.specs.Shapes.{has_dot, ink, whole}

-- from this column on and before that one
abbrev pub is_in : ℕ → ℕ → ℕ → Bool
is_in from to x = nat_le from x && nat_lt x to

-- how many columns, from one on and before another, pass a test
abbrev pub count_in : (ℕ → Bool) → ℕ → ℕ → ℕ
count_in test from to = count_by test (range_with_len from (to - from))

-- the columns of the pen that are dots are laid over once each, and counted
pub record IsLaid (pen : Pen) (dots : ℕ → Bool) (old new : List ℕ) (before after : ℕ) : Type 0 where
  pub long : length new ≡ length old
  pub pixels : (x : ℕ) → x < length old → slice_index new x
      ≡ (if is_in pen.left pen.right x && dots x then blended pen.color (slice_index old x) else slice_index old x)
  pub count : after ≡ before + count_in dots pen.left pen.right

-- the pen stays within a row
pub record IsPen (pen : Pen) (row : List ℕ) : Type 0 where
  pub rises : pen.left ≤ pen.right
  pub within : pen.right ≤ length row
  pub some : 0 < pen.scale
  pub most : pen.scale ≤ 9223372036854775807
  pub near : pen.right ≤ 65536

-- a colour laid over any pixel gives this one
abbrev pub IsInk : Color → ℕ → Type 0
IsInk color pixel = (under : ℕ) → blended color under ≡ pixel

-- one bit of a glyph: a scale of columns from here on
abbrev pub bit_dots : Pen → ℤ → ℕ → Bool
bit_dots pen start x = in_range start (start +ℤ pos pen.scale) x

-- the bits of a row of a glyph
abbrev pub bits_of : ℕ → ℕ → Bits
bits_of glyph row = record {
  left = has_dot glyph 0 row;
  middle = has_dot glyph 1 row;
  right = has_dot glyph 2 row;
}

-- three bits side by side, of which the first begins here
unfoldable pub row_dots : Pen → ℤ → Bits → ℕ → Bool
row_dots pen start bits x =
    ((bits.left && bit_dots pen start x)
    || (bits.middle && bit_dots pen (start +ℤ pos (1 * pen.scale)) x))
    || (bits.right && bit_dots pen (start +ℤ pos (2 * pen.scale)) x)

-- three bits between the edges of a stamp
unfoldable pub bits_between : Stamp → Bits → ℕ → Bool
bits_between stamp bits x =
    ((bits.left && is_in stamp.first stamp.second x) || (bits.middle && is_in stamp.second stamp.third x))
    || (bits.right && is_in stamp.third stamp.end x)

-- a row of a stamp's glyph
abbrev pub stamp_dots : Stamp → ℕ → ℕ → Bool
stamp_dots stamp line = bits_between stamp (bits_of stamp.glyph line)

-- the edges of a stamp rise from one column up to another
pub record IsStamp (low high : ℕ) (stamp : Stamp) : Type 0 where
  pub from : low ≤ stamp.first
  pub left : stamp.first ≤ stamp.second
  pub middle : stamp.second ≤ stamp.third
  pub right : stamp.third ≤ stamp.end
  pub to : stamp.end ≤ high

-- one run that goes over the middle bit, and an empty one behind it
abbrev pub joined_runs : Stamp → Bits → Runs
joined_runs stamp bits = record {
  left = record {
    left = if bits.left then stamp.first else stamp.second;
    right = if bits.right then stamp.end else stamp.third;
  };
  right = record { left = stamp.end; right = stamp.end };
}

-- a run for each bit beside the middle one, empty where the bit isn't set
abbrev pub runs_beside : Stamp → Bits → Runs
runs_beside stamp bits = record {
  left = record { left = stamp.first; right = if bits.left then stamp.second else stamp.first };
  right = record { left = stamp.third; right = if bits.right then stamp.end else stamp.third };
}

-- what two runs hold
abbrev pub runs_dots : Runs → ℕ → Bool
runs_dots runs x = is_in runs.left.left runs.left.right x || is_in runs.right.left runs.right.right x

-- one run lies before the other, from one column on and before another
pub record AreApart (low high : ℕ) (runs : Runs) : Type 0 where
  pub from : low ≤ runs.left.left
  pub left : runs.left.left ≤ runs.left.right
  pub apart : runs.left.right ≤ runs.right.left
  pub right : runs.right.left ≤ runs.right.right
  pub to : runs.right.right ≤ high

-- the same pen so many rows further down
abbrev pub lowered : Pen → ℕ → Pen
lowered pen rows = record pen { below = pen.below + rows }

-- no edge lies before another one
pub record DoRise (edges : Edges) : Type 0 where
  pub left : edges.first ≤ℤ edges.second
  pub middle : edges.second ≤ℤ edges.third
  pub right : edges.third ≤ℤ edges.end

-- in the pen's columns, each of three bits that begin here lies from one edge on and before the next
pub record AreEdges (pen : Pen) (start : ℤ) (edges : Edges) : Type 0 where
  pub left : (x : ℕ) → x < pen.right → in_range edges.first edges.second x ≡ bit_dots pen start x
  pub middle : (x : ℕ) → x < pen.right
      → in_range edges.second edges.third x ≡ bit_dots pen (start +ℤ pos (1 * pen.scale)) x
  pub right : (x : ℕ) → x < pen.right
      → in_range edges.third edges.end x ≡ bit_dots pen (start +ℤ pos (2 * pen.scale)) x

-- the row of a glyph that the pen paints, in the first of the cells of a character that begin here
unfoldable pub char_dots : Pen → ℤ → ℕ → ℕ → Bool
char_dots pen start c x =
    in_range start (start +ℤ pos (4 * cell_width c * pen.scale)) x
    && has_dot (glyph_of c) (whole (pos x -ℤ start) / pen.scale) (pen.below / pen.scale)

-- the row of letters that the pen paints, whose first cell begins here
unfoldable pub line_dots : Pen → ℤ → List ℕ → ℕ → Bool
line_dots pen start cs x =
    in_range start (start +ℤ pos (4 * cells_of cs * pen.scale)) x && ink cs pen.scale (whole (pos x -ℤ start)) pen.below
