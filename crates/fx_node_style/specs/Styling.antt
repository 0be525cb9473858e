-- The style of a node by the rules that match it, its code values and the styles of its ancestors, the nearest first.
use Rattle.std.specs.Prelude.{ℕ, List, [], ◌∷◌, map, Option, Some, None}
use Rattle.fx_look.specs.Looks.{initial_look}
use Rattle.fx_look.specs.declared.looks.Look.{Look}
use Rattle.fx_look.specs.declared.styles.CodeValue.{CodeValue}
use Rattle.fx_css_types.specs.declared.sheets.SheetAt.{SheetAt}
use Rattle.fx_css_types.specs.declared.sheets.Candidate.{Candidate}
use Rattle.fx_lookup.specs.declared.named.NamedPaint.{NamedPaint}
use Rattle.fx_lookup.specs.Lookups.{resolved}
use Rattle.fx_node_style.specs.declared.node_styles.NodeStyle.{NodeStyle}
use Rattle.fx_node_style.specs.Keeping.{paints_of}
use Rattle.fx_node_style.specs.Looking.{look_of}
use Rattle.fx_node_style.specs.Values.{row_value}

-- the root inherits what a node has at first
abbrev pub inherited : ℕ → Option Look → Look
inherited alignment None = initial_look alignment
inherited alignment (Some parent) = parent

-- with these paints of its own, under a parent's look and the paints of all ancestors
abbrev pub style_with : List SheetAt → List Candidate → List CodeValue → ℕ → Option Look → List (List NamedPaint)
    → List NamedPaint → NodeStyle
style_with sheets matched codes alignment parent above paints = record {
  look = look_of (row_value sheets matched codes) (resolved (paints ∷ above)) alignment (inherited alignment parent);
  paints = paints;
}

unfoldable pub style_under : List SheetAt → List Candidate → List CodeValue → ℕ → Option Look → List (List NamedPaint)
    → NodeStyle
style_under sheets matched codes alignment parent above =
    style_with sheets matched codes alignment parent above (paints_of sheets matched codes)

abbrev pub look_above : List NodeStyle → Option Look
look_above [] = None
look_above (parent ∷ above) = Some parent.look

abbrev pub paints_above : List NodeStyle → List (List NamedPaint)
paints_above above = map (λ (s : NodeStyle). s.paints) above

abbrev pub style_by : List SheetAt → List Candidate → List CodeValue → ℕ → List NodeStyle → NodeStyle
style_by sheets matched codes alignment above =
    style_under sheets matched codes alignment (look_above above) (paints_above above)
