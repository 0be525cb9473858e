-- Marks of places, and the nearest one before or behind a place.
-- Cited by src/marks.rt and by the sweeps.
use Rattle.std.specs.Prelude.{◌≡◌, ℕ, ◌+◌, ◌<◌, ◌≤◌, Bool, true, false, ◌==◌, List, length, slice_index_or, MatchOption, Option}

-- a byte that stands for a mark that is set
abbrev pub is_set : ℕ → Bool
is_set byte = byte == 1

-- the marks of places, of which those that aren't there are unset
abbrev pub flag_in : List Bool → ℕ → Bool
flag_in flags p = slice_index_or flags p false

-- no place from one up to another is marked
abbrev pub AreUnmarked : List Bool → ℕ → ℕ → Type 0
AreUnmarked flags from to = (q : ℕ) → from ≤ q → q < to → flag_in flags q ≡ false

-- the first marked place from one on, if there is one
abbrev pub IsFirstMark : List Bool → ℕ → Option ℕ → Type 0
IsFirstMark flags from found = MatchOption found (AreUnmarked flags from (length flags))
    (λ p. (from ≤ p) × (p < length flags) × (flag_in flags p ≡ true) × AreUnmarked flags from p)

-- the last marked place before one, if there is one
abbrev pub IsLastMark : List Bool → ℕ → Option ℕ → Type 0
IsLastMark flags to found = MatchOption found (AreUnmarked flags 0 to)
    (λ p. (p < to) × (flag_in flags p ≡ true) × AreUnmarked flags (p + 1) to)
