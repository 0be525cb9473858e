-- The text of an expression in a line: what stands between `${` and `}`, with spaces alone around them.
use Rattle.std.specs.Prelude.{ℕ, List, [], ◌∷◌, ◌==◌, Option, None, Some, reverse, if◌then◌else◌, option_and_then}
use Rattle.std.specs.Option.{option_map}
use Rattle.fx_text.specs.Characters.{dollar_sign, left_brace, right_brace}
use Rattle.fx_text.specs.Fronts.{behind}
use Rattle.fx_text.specs.Classes.{is_space}

-- what is behind this character in front
abbrev pub behind_sign : ℕ → List ℕ → Option (List ℕ)
behind_sign sign [] = None
behind_sign sign (c ∷ cs) = if c == sign then Some cs else None

-- what is in front of this character at the end
abbrev pub before_sign : ℕ → List ℕ → Option (List ℕ)
before_sign sign text = option_map reverse (behind_sign sign (reverse text))

-- the text without the spaces at its end
abbrev pub before_spaces : List ℕ → List ℕ
before_spaces text = reverse (behind is_space (reverse text))

-- the text without the spaces at both ends
abbrev pub between_spaces : List ℕ → List ℕ
between_spaces text = before_spaces (behind is_space text)

-- what stands between `${` and `}`
unfoldable pub between_braces : List ℕ → Option (List ℕ)
between_braces text =
    option_and_then (before_sign right_brace)
    (option_and_then (behind_sign left_brace) (behind_sign dollar_sign (between_spaces text)))
