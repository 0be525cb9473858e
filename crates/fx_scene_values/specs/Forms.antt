-- What the text of an attribute is by the signs in front of it (Introduction to FXML).
use Rattle.std.specs.Prelude.{ℕ, ◌==◌, List, [], ◌∷◌, Option, Some, None, if◌then◌else◌}
use Rattle.fx_script_commands.specs.Braces.{before_sign, behind_sign}
use Rattle.fx_text.specs.Characters.{backslash, commercial_at, dollar_sign, left_brace, percent_sign, right_brace}

pub data Form : Type 0 where
  Literal : List ℕ → Form
  -- an expression that the property is bound to
  Bound : List ℕ → Form
  -- a value by its name
  Named : List ℕ → Form
  Located : List ℕ → Form
  Refused : Form

-- `${` without `}` at the end is of no form
abbrev pub closed_form : Option (List ℕ) → Form
closed_form (Some text) = Bound text
closed_form None = Refused

abbrev pub brace_form : List ℕ → Form
brace_form inside = closed_form (before_sign right_brace inside)

abbrev pub open_form : List ℕ → Option (List ℕ) → Form
open_form rest (Some inside) = brace_form inside
open_form rest None = Named rest

-- what stands behind `$`: an expression between braces, or a name
abbrev pub dollar_form : List ℕ → Form
dollar_form rest = open_form rest (behind_sign left_brace rest)

-- `%` stands before what isn't read at all
abbrev pub percent_form : List ℕ → Form
percent_form [] = Literal []
percent_form (c ∷ cs) = if c == percent_sign then Refused else Literal (c ∷ cs)

abbrev pub at_form : Option (List ℕ) → List ℕ → Form
at_form (Some path) text = Located path
at_form None text = percent_form text

-- `@` stands before a location
abbrev pub unsigned_form : List ℕ → Form
unsigned_form text = at_form (behind_sign commercial_at text) text

abbrev pub signed_form : Option (List ℕ) → List ℕ → Form
signed_form (Some rest) text = dollar_form rest
signed_form None text = unsigned_form text

abbrev pub escaped_form : Option (List ℕ) → List ℕ → Form
escaped_form (Some rest) text = Literal rest
escaped_form None text = signed_form (behind_sign dollar_sign text) text

-- `\` makes the rest literal
unfoldable pub form_of : List ℕ → Form
form_of text = escaped_form (behind_sign backslash text) text
