-- Classes of characters and bytes. All of their members are ASCII but those of `is_continuation`, so in UTF-8 no byte
-- of a longer character is one of them.
use Rattle.std.specs.Prelude.{ℕ, Bool, false, List, [], ◌∷◌, ◌&&◌, ◌||◌, ◌==◌, ◌+◌, ◌-◌, nat_le, Option, Some, None, if◌then◌else◌}
use Rattle.std.specs.List.{list_all}
use Rattle.fx_text.specs.Characters as spec

-- space, tab, line feed and carriage return (XML 1.0, `S`)
abbrev pub is_white : ℕ → Bool
is_white c = ((c == spec.space) || (c == spec.tab)) || ((c == spec.line_feed) || (c == spec.carriage_return))

abbrev pub is_space : ℕ → Bool
is_space c = c == spec.space

-- space and tab, which separate within a line
abbrev pub is_blank : ℕ → Bool
is_blank c = (c == spec.space) || (c == spec.tab)

abbrev pub is_quote : ℕ → Bool
is_quote c = (c == spec.quotation_mark) || (c == spec.apostrophe)

-- an ASCII letter or `_`
abbrev pub is_letter : ℕ → Bool
is_letter c = ((nat_le spec.capital_a c && nat_le c spec.capital_z) || (nat_le spec.small_a c && nat_le c spec.small_z))
    || (c == spec.underscore)

abbrev pub is_letter_or_digit : ℕ → Bool
is_letter_or_digit c = is_letter c || (nat_le spec.digit_zero c && nat_le c spec.digit_nine)

-- An identifier of scenes and scripts: a letter or `_`, and then letters, digits and `_`. Over the bytes of the text.
abbrev pub is_identifier : List ℕ → Bool
is_identifier [] = false
is_identifier (c ∷ cs) = is_letter c && list_all is_letter_or_digit cs

-- the value of a hexadecimal digit, in either case of letters
abbrev pub hex_value : ℕ → Option ℕ
hex_value c =
    if nat_le spec.digit_zero c && nat_le c spec.digit_nine then Some (c - spec.digit_zero)
    else (if nat_le spec.capital_a c && nat_le c spec.capital_f then Some (c - spec.capital_a + 10)
    else (if nat_le spec.small_a c && nat_le c spec.small_f then Some (c - spec.small_a + 10) else None))

-- whether the byte goes on with a character of UTF-8
abbrev pub is_continuation : ℕ → Bool
is_continuation byte = nat_le 128 byte && nat_le byte 191
