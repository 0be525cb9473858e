-- Where the characters of a text stand. Only a line feed ends a line, and each character is one column.
use Rattle.std.specs.Prelude.{ℕ, ◌+◌, ◌==◌, List, [], ◌∷◌, if◌then◌else◌}
use Rattle.fx_text.specs.Characters.{line_feed}
use Rattle.fx_text.specs.Classes.{is_continuation}
use Rattle.fx_base.specs.declared.positions.Position.{Position}

-- the position of the first character
abbrev pub start : Position
start = record { line = 1; column = 1 }

-- the position behind the character c at p
abbrev pub after : Position → ℕ → Position
after p c = if c == line_feed then record { line = p.line + 1; column = 1 } else
    record { line = p.line; column = p.column + 1 }

abbrev pub after_all : Position → List ℕ → Position
after_all p [] = p
after_all p (c ∷ cs) = after_all (after p c) cs

-- the position behind a byte of a text in UTF-8: a byte that goes on with a character moves nothing
abbrev pub after_byte : Position → ℕ → Position
after_byte p byte = if is_continuation byte then p else after p byte

abbrev pub after_bytes : Position → List ℕ → Position
after_bytes p [] = p
after_bytes p (byte ∷ bytes) = after_bytes (after_byte p byte) bytes
