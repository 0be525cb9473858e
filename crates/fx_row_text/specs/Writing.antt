-- A row's text that is being written.
use Rattle.std.specs.Prelude.{◌≡◌, ◌≤◌, ◌+◌, ◌*◌, ℕ, List, length, take}
use Rattle.fx_row_text.specs.Rows.{spaced_text}

-- pixels before a place are written, each behind a space, and there is room for all of them and for a byte more
pub record IsWritten (text row : List ℕ) (at : ℕ) : Type 0 where
  pub within : at ≤ length row
  pub long : length text ≡ 7 * length row + 1
  pub front : take (7 * at) text ≡ spaced_text (take at row)
