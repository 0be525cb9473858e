-- Characters as the grammar sees them, by their code points.
-- Below the grammar: what a character means.
use Rattle.std.specs.Prelude.{◌≡◌, ℕ, Bool, true, false, ◌==◌, ◌&&◌, ◌||◌, List, [], ◌∷◌, nat_lt, if◌then◌else◌}
use Rattle.std.specs.Char.{is_ascii_digit}
use lib.Utf8.{scalar}
use Rattle.fx_text.specs.Characters as ascii
use Rattle.fx_text.specs.Classes.{is_white, is_letter}
use Rattle.fx_doc_grammar.specs.declared.Class.{Class}
use Rattle.fx_doc_grammar.specs.declared.Class.TheVariants as class

-- a digit, `.` or `:`
abbrev pub is_later : ℕ → Bool
is_later c = is_ascii_digit c || ((c == ascii.colon) || (c == ascii.full_stop))

unfoldable pub class_of : ℕ → Class
class_of c =
    if is_white c then class.White
    else (if c == ascii.less_than_sign then class.Less
    else (if c == ascii.greater_than_sign then class.Greater
    else (if c == ascii.slash then class.Slash
    else (if c == ascii.equals_sign then class.Equals
    else (if c == ascii.exclamation_mark then class.Bang
    else (if c == ascii.question_mark then class.Question
    else (if c == ascii.hyphen then class.Dash
    else (if c == ascii.quotation_mark then class.Quotation
    else (if c == ascii.apostrophe then class.Apostrophe
    else (if c == ascii.ampersand then class.Ampersand
    else (if is_letter c then class.Letter
    else (if is_later c then class.Digit else class.Other))))))))))))

abbrev pub IsWhite : ℕ → Type 0
IsWhite c = class_of c ≡ class.White

-- a name begins with a letter or `_`
abbrev pub starts_name : Class → Bool
starts_name class.Letter = true
starts_name _ = false

-- and goes on with letters, digits, `_`, `-`, `.` and `:`
abbrev pub in_name : Class → Bool
in_name class.Letter = true
in_name class.Digit = true
in_name class.Dash = true
in_name _ = false

abbrev pub Each : (ℕ → Type 0) → List ℕ → Type 0
Each P [] = Unit {0}
Each P (c ∷ cs) = P c × Each P cs

-- a Unicode scalar value above 0
unfoldable pub is_character : ℕ → Bool
is_character n = nat_lt 0 n && scalar n

-- the greatest code point
abbrev pub last_code : ℕ
last_code = 0x10ffff
