-- Identifiers of style sheets (JavaFX CSS Reference Guide, "ident"), of any length. Over the bytes of the text.
use Rattle.std.specs.Prelude.{ℕ, Bool, false, ◌||◌, ◌&&◌, ◌==◌, if◌then◌else◌, List, [], ◌∷◌}
use Rattle.std.specs.List.{list_all}
use Rattle.fx_text.specs.Characters.{hyphen}
use Rattle.fx_text.specs.Classes.{is_letter, is_letter_or_digit}

-- what may stand behind the first letter
abbrev pub is_later : ℕ → Bool
is_later c = is_letter_or_digit c || (c == hyphen)

-- an ASCII letter or `_`, and then letters, digits, `_` and `-`
abbrev pub is_style_word : List ℕ → Bool
is_style_word [] = false
is_style_word (c ∷ cs) = is_letter c && list_all is_later cs

abbrev pub behind_dash : List ℕ → List ℕ
behind_dash [] = []
behind_dash (c ∷ cs) = if c == hyphen then cs else c ∷ cs

-- such a word, perhaps behind a `-`
abbrev pub is_style_identifier : List ℕ → Bool
is_style_identifier text = is_style_word (behind_dash text)
