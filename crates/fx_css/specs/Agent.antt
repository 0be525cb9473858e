-- The sheet of the user agent, rule by rule (JavaFX CSS Reference Guide 21; which rules it has is this player's
-- choice).
use Rattle.std.specs.Prelude.{ℕ, pos, List, [], ◌∷◌, None, codes}
use Rattle.fx_base.specs.declared.color.Color.{Color}
use Rattle.fx_base.specs.declared.geometry.Sides.{Sides}
use Rattle.fx_base.specs.declared.kinds.Family.TheVariants.{Pos}
use Rattle.fx_base.specs.declared.values.Value.TheVariants as value
use Rattle.fx_css_types.specs.declared.declarations.Declaration.{Declaration}
use Rattle.fx_css_types.specs.declared.declarations.Declared.{Declared}
use Rattle.fx_css_types.specs.declared.declarations.Declared.TheVariants as declared
use Rattle.fx_css_types.specs.declared.declarations.Paint.TheVariants as paint
use Rattle.fx_css_types.specs.declared.selectors.Selector.{Selector}
use Rattle.fx_css_types.specs.declared.sheets.Rule.{Rule}
use Rattle.fx_css_types.specs.Limits.{row_of}

-- a selector of one compound with these classes and pseudo-classes
unfoldable pub selector_of : List (List ℕ) → List (List ℕ) → Selector
selector_of classes pseudos = record {
  compounds = (record { combinator = None; kind = None; classes = classes; ids = []; pseudos = pseudos }) ∷ [];
}

abbrev pub rule_of : List (List ℕ) → List (List ℕ) → List Declaration → Rule
rule_of classes pseudos declarations =
    record { selectors = selector_of classes pseudos ∷ []; declarations = declarations }

abbrev pub declaration_of : List ℕ → Declared → Declaration
declaration_of name v = record { name = name; row = row_of name; value = v }

abbrev pub opaque : ℕ → ℕ → ℕ → Color
opaque r g b = record { r = r; g = g; b = b; a = 255 }

abbrev pub black : Color
black = opaque 0 0 0

abbrev pub navy : Color
navy = opaque 0 0 128

abbrev pub gray : Color
gray = opaque 128 128 128

abbrev pub dark_gray : Color
dark_gray = opaque 169 169 169

abbrev pub light_gray : Color
light_gray = opaque 211 211 211

abbrev pub white : Color
white = opaque 255 255 255

-- `-fx-text-fill` with one colour, and `-fx-background-color` with two, the second over the first
unfoldable pub text_fill : Color → Declaration
text_fill c = declaration_of (codes "-fx-text-fill") (declared.Paint (paint.Color c))

unfoldable pub background : Color → Color → Declaration
background under over =
    declaration_of (codes "-fx-background-color") (declared.Paints (paint.Color under ∷ (paint.Color over ∷ [])))

-- `-fx-alignment` with the position of this number
unfoldable pub alignment : ℕ → Declaration
alignment place = declaration_of (codes "-fx-alignment") (declared.Plain (value.Choice Pos place))

-- `.root { -fx-font-size: 12 }`
unfoldable pub root_rule : Rule
root_rule =
    rule_of (codes "root" ∷ []) [] (declaration_of (codes "-fx-font-size") (declared.Plain (value.Int (pos 12))) ∷ [])

-- `.label { -fx-text-fill: black; -fx-alignment: center-left }`
unfoldable pub label_rule : Rule
label_rule = rule_of (codes "label" ∷ []) [] (text_fill black ∷ (alignment 3 ∷ []))

abbrev pub all_sides : ℕ → Sides
all_sides n = record { top = pos n; right = pos n; bottom = pos n; left = pos n }

-- `-fx-background-insets: 0, 1`
unfoldable pub button_insets : Declaration
button_insets =
    declaration_of (codes "-fx-background-insets") (declared.SidesList (all_sides 0 ∷ (all_sides 1 ∷ [])))

-- `-fx-padding: 2 4 2 4`
unfoldable pub button_padding : Declaration
button_padding = declaration_of (codes "-fx-padding")
    (declared.Plain (value.Sides (record { top = pos 2; right = pos 4; bottom = pos 2; left = pos 4 })))

-- `.button { -fx-background-color: gray, lightgray; -fx-background-insets: 0, 1; -fx-padding: 2 4 2 4;
-- -fx-text-fill: black; -fx-alignment: center }`
unfoldable pub button_rule : Rule
button_rule = rule_of (codes "button" ∷ []) []
    (background gray light_gray ∷ (button_insets ∷ (button_padding ∷ (text_fill black ∷ (alignment 4 ∷ [])))))

-- a button in a state, as in `.button:hover { -fx-background-color: gray, white }`
unfoldable pub state_rule : List ℕ → Declaration → Rule
state_rule state d = rule_of (codes "button" ∷ []) (state ∷ []) (d ∷ [])

abbrev pub agent_rules : List Rule
agent_rules = root_rule ∷ (label_rule ∷ (button_rule
    ∷ (state_rule (codes "focused") (background navy light_gray)
    ∷ (state_rule (codes "hover") (background gray white)
    ∷ (state_rule (codes "pressed") (background gray dark_gray)
    ∷ (state_rule (codes "disabled") (text_fill gray) ∷ []))))))
