-- Identifiers are ASCII, and short.
use Rattle.std.proofs.Common.{◌≡◌, ℕ, ◌<◌, ◌≤◌, true, List, [], ◌∷◌, length, nat_le, arith}
use Rattle.std.specs.List.{list_all}
use Rattle.std.specs.Str.{IsAscii}
use Rattle.std.proofs.lemmas.Bool.{and_parts}
use Rattle.std.proofs.lemmas.Bool.Decides.{nat_tests}
use Rattle.std.proofs.lemmas.Str.Ascii.{IsAscii-nil, IsAscii-cons}
use Rattle.fx_text.specs.Identifiers.{behind_dash, is_later, is_style_word}
use Rattle.fx_css_parts.specs.Texts.{is_ident}
use Rattle.fx_css_parts.proofs.SelectorLaws.{ident_later}

later_low : (c : ℕ) → is_later c ≡ true → c < 128
later_low c e = grind (arith, nat_tests, e)

later_ascii : (text : List ℕ) → list_all is_later text ≡ true → IsAscii text
later_ascii [] h = IsAscii-nil
later_ascii (c ∷ cs) h =
    let both = and_parts (is_later c) (list_all is_later cs) h in
    IsAscii-cons c cs (later_low c both.0) (later_ascii cs both.1)

pub ident_ascii : (text : List ℕ) → is_ident text ≡ true → IsAscii text
ident_ascii text h = later_ascii text (ident_later text h)

pub ident_short : (text : List ℕ) → is_ident text ≡ true → length text ≤ 4096
ident_short text h =
    let both = and_parts (is_style_word (behind_dash text)) (nat_le (length text) 4096) h in
    grind (arith, nat_tests, both.1)
