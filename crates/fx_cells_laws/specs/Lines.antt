-- How many lines a text has.
-- Cited by src/laws.rt.
use Rattle.std.specs.Prelude.{◌≡◌, ℕ, List, length}
use Rattle.fx_cells.specs.Wrapping.{IsWrapping}

-- A text that wraps at so many columns has so many lines.
pub record HasLines (columns : ℕ) (text : List ℕ) (lines : ℕ) : Type 0 where
  pub ranges : List (ℕ × ℕ)
  pub wraps : IsWrapping columns text ranges
  pub many : lines ≡ length ranges
