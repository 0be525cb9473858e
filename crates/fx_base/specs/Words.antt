-- Some bytes as one number.
use Rattle.std.specs.Prelude.{ℕ, zero, suc, ◌+◌, ◌*◌}

-- so many bytes from this place on, the first of which counts least
abbrev pub word_of : ℕ → (ℕ → ℕ) → ℕ → ℕ
word_of zero bytes at = 0
word_of (suc count) bytes at = bytes at + 256 * word_of count bytes (at + 1)
