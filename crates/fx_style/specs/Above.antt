-- What a node takes from the styles of its ancestors, the nearest first: of their paints just the lists with some.
use Rattle.std.specs.Prelude.{List, [], ◌∷◌, Option}
use Rattle.std.specs.List.{flat_map}
use Rattle.fx_css_types.specs.declared.sheets.SheetAt.{SheetAt}
use Rattle.fx_kinds.specs.declared.facts.StyleFacts.{StyleFacts}
use Rattle.fx_kinds.specs.Properties.{initial_alignment}
use Rattle.fx_look.specs.declared.looks.Look.{Look}
use Rattle.fx_lookup.specs.declared.named.NamedPaint.{NamedPaint}
use Rattle.fx_node_style.specs.declared.node_styles.NodeStyle.{NodeStyle}
use Rattle.fx_node_style.specs.Styling.{style_under}
use Rattle.fx_style.specs.Rules.{matching_nodes}

-- the list, where it has any
abbrev pub if_some : List NamedPaint → List (List NamedPaint)
if_some [] = []
if_some (p ∷ ps) = (p ∷ ps) ∷ []

abbrev pub some_paints : List NodeStyle → List (List NamedPaint)
some_paints above = flat_map (λ (s : NodeStyle). if_some s.paints) above

-- the style of the first of these nodes under its parent's look and these paints of ancestors
abbrev pub node_under : List SheetAt → List StyleFacts → Option Look → List (List NamedPaint) → NodeStyle
node_under sheets [] parent paints = style_under sheets [] [] 0 parent paints
node_under sheets (node ∷ up) parent paints =
    style_under sheets (matching_nodes sheets (node ∷ up)) node.codes (initial_alignment node.class) parent paints
