-- Characters of a document that the reader takes many at a time.
-- No public clause cites these.
use Rattle.std.specs.Prelude.{ℕ, Bool, false, not, ◌==◌, ◌&&◌, ◌||◌, List, [], ◌∷◌, nat_lt, nat_le}
use Rattle.fx_text.specs.Characters as ascii
use Rattle.fx_doc_grammar.specs.Characters.{class_of, in_name, starts_name}

-- characters of ASCII
abbrev pub is_low : ℕ → Bool
is_low c = nat_lt c 128

-- those that don't end a line
abbrev pub is_flat : ℕ → Bool
is_flat c = is_low c && not (c == ascii.line_feed)

-- such a character, and none of these two: a run goes on up to one of them
abbrev pub is_calm : ℕ → ℕ → ℕ → Bool
is_calm a b c = is_flat c && (not (c == a) && not (c == b))

-- a character that stands for itself in the text of an element
abbrev pub is_text : ℕ → Bool
is_text c = is_low c && (not (c == ascii.less_than_sign) && not (c == ascii.ampersand))

-- white that doesn't end a line
abbrev pub is_gap : ℕ → Bool
is_gap c = (c == ascii.space) || ((c == ascii.tab) || (c == ascii.carriage_return))

-- a character of a name, in ASCII
abbrev pub is_named : ℕ → Bool
is_named c = nat_lt c 128 && in_name (class_of c)

-- a character of a value that stands for itself: no control character, `&` or `<`, and not the value's quote
abbrev pub is_plain : ℕ → ℕ → Bool
is_plain quote c = nat_le ascii.space c && (nat_lt c 127
    && (not (c == quote) && (not (c == ascii.ampersand) && not (c == ascii.less_than_sign))))

abbrev pub begins_name : List ℕ → Bool
begins_name [] = false
begins_name (c ∷ cs) = starts_name (class_of c)
