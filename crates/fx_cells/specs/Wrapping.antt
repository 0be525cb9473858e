-- The lines of a text that wraps at a number of cells, as places in the text.
-- Cited by src/wrapping.rt and by the layout of controls.
use Rattle.std.specs.Prelude.{◌≡◌, ℕ, ◌+◌, ◌<◌, ◌≤◌, ◌==◌, ◌⊎◌, List, [], ◌∷◌, length, take, drop, slice_index, slice_range, chars, encode_utf8_all}
use Rattle.std.specs.List.{prefix_len}
use Rattle.std.specs.Str.{IsCharBoundary}
use Rattle.fx_text.specs.Characters.{space}
use Rattle.fx_cells.specs.Columns.{cells_of}
use Rattle.fx_cells.specs.declared.wrapping.Cut.{Cut}

-- A text may be broken behind its first m characters: they are some, they have at most n cells, and a space follows.
pub record IsBreak (n : ℕ) (text : List ℕ) (m : ℕ) : Type 0 where
  pub some : 0 < m
  pub narrow : cells_of (take m text) ≤ n
  pub space : slice_index text m ≡ space

-- The first m characters are some, and have at most n cells.
pub record IsFitting (n : ℕ) (text : List ℕ) (m : ℕ) : Type 0 where
  pub some : 0 < m
  pub within : m ≤ length text
  pub narrow : cells_of (take m text) ≤ n

-- The greatest number with a property.
pub record IsGreatest (P : ℕ → Type 0) (m : ℕ) : Type 0 where
  pub holds : P m
  pub greatest : (k : ℕ) → P k → k ≤ m

-- how many spaces a text begins with
abbrev pub leading_spaces : List ℕ → ℕ
leading_spaces text = prefix_len (λ c. c == space) text

-- The first line of a text has m characters, and k spaces behind it are dropped.
pub data IsFirstLine (n : ℕ) (text : List ℕ) (m k : ℕ) : Type 0 where
  -- a text of at most n cells is one line
  whole : cells_of text ≤ n → m ≡ length text → k ≡ 0 → IsFirstLine n text m k
  -- a wider text is broken at the last space where it may be, and all spaces there are dropped
  at_space : n < cells_of text → IsGreatest (IsBreak n text) m → k ≡ leading_spaces (drop m text)
      → IsFirstLine n text m k
  -- without such a space the line has as many characters as fit
  inside_word : n < cells_of text → ((j : ℕ) → ¬ IsBreak n text j) → IsGreatest (IsFitting n text) m → k ≡ 0
      → IsFirstLine n text m k
  -- where none fits, the line is the first character
  too_wide : n < cells_of text → ((j : ℕ) → ¬ IsBreak n text j) → ((j : ℕ) → ¬ IsFitting n text j) → m ≡ 1 → k ≡ 0
      → IsFirstLine n text m k

-- how many bytes these characters take in UTF-8
abbrev pub bytes_of : List ℕ → ℕ
bytes_of text = length (encode_utf8_all text)

-- A cut of the text stands behind its first line, and behind the spaces that are dropped there.
pub record CutsFirstLine (n : ℕ) (text : List ℕ) (cut : Cut) (m k : ℕ) : Type 0 where
  pub first : IsFirstLine n text m k
  pub end : cut.end ≡ bytes_of (take m text)
  pub next : cut.next ≡ bytes_of (take (m + k) text)

-- The first line of a text that begins `at` bytes into the whole stands at `range`.
pub record BeginsWithLine (n at : ℕ) (text : List ℕ) (range : ℕ × ℕ) (m k : ℕ) : Type 0 where
  pub first : IsFirstLine n text m k
  pub place : range ≡ (at, at + bytes_of (take m text))

-- The lines of a text that begins `at` bytes into the whole, as ranges of bytes, first to last.
-- What the first line and the spaces behind it leave over gives the further lines, unless it is empty.
abbrev pub AreLines : ℕ → ℕ → List ℕ → List (ℕ × ℕ) → Type 0
AreLines n at text [] = ⊥
AreLines n at text (range ∷ ranges) = (m : ℕ) × (k : ℕ) × BeginsWithLine n at text range m k
    × (((drop (m + k) text ≡ []) × (ranges ≡ []))
    ⊎ ((0 < length (drop (m + k) text)) × AreLines n (at + bytes_of (take (m + k) text)) (drop (m + k) text) ranges))

-- The lines of a text at n cells, as ranges of bytes.
abbrev pub IsWrapping : ℕ → List ℕ → List (ℕ × ℕ) → Type 0
IsWrapping n text ranges = AreLines n 0 text ranges

-- A line of a text stands between characters, and has at most n cells or is one character.
pub record IsLine (n : ℕ) (text : List ℕ) (range : ℕ × ℕ) : Type 0 where
  pub order : range.0 ≤ range.1
  pub start : IsCharBoundary text range.0
  pub end : IsCharBoundary text range.1
  pub narrow : (cells_of (chars (slice_range text range.0 range.1)) ≤ n)
      ⊎ (length (chars (slice_range text range.0 range.1)) ≡ 1)
