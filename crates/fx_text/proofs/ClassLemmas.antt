-- Identifiers are ASCII.
use Rattle.std.proofs.Common.{◌≡◌, ℕ, ◌<◌, true, List, [], ◌∷◌, arith}
use Rattle.std.specs.List.{list_all}
use Rattle.std.specs.Str.{IsAscii}
use Rattle.std.proofs.lemmas.Bool.{and_parts}
use Rattle.std.proofs.lemmas.Bool.Decides.{nat_tests}
use Rattle.std.proofs.lemmas.Str.Ascii.{IsAscii-cons, IsAscii-nil}
use Rattle.fx_text.specs.Classes.{is_identifier, is_letter, is_letter_or_digit}

letter_or_digit_small : (c : ℕ) → is_letter_or_digit c ≡ true → c < 128
letter_or_digit_small c h = grind (arith, nat_tests)

letter_small : (c : ℕ) → is_letter c ≡ true → c < 128
letter_small c h = grind (arith, nat_tests)

IsAscii-letters : (cs : List ℕ) → list_all is_letter_or_digit cs ≡ true → IsAscii cs
IsAscii-letters [] h = IsAscii-nil
IsAscii-letters (c ∷ cs) h = let p = and_parts (is_letter_or_digit c) (list_all is_letter_or_digit cs) h in IsAscii-cons c cs (letter_or_digit_small c p.0) (IsAscii-letters cs p.1)

pub IsAscii-identifier : (cs : List ℕ) → is_identifier cs ≡ true → IsAscii cs
IsAscii-identifier [] h = absurd (cc)
IsAscii-identifier (c ∷ cs) h = let p = and_parts (is_letter c) (list_all is_letter_or_digit cs) h in IsAscii-cons c cs (letter_small c p.0) (IsAscii-letters cs p.1)
