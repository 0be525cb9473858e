-- What a frame is made of: the sheets, and the facts of the nodes that stand in the scene.
use Rattle.std.specs.Prelude.{◌≡◌, ◌<◌, ℕ, Bool, List, eqb, length, map, Option}
use Rattle.std.specs.List.{IsDistinct, range_with_len}
use Rattle.std.specs.Option.{option_map_or}
use Rattle.fx_css_types.specs.declared.sheets.SheetAt.{SheetAt}
use Rattle.fx_css_types.specs.Limits.{AreWithinLimits}
use Rattle.fx_kinds.specs.declared.facts.BoxFacts.{BoxFacts}
use Rattle.fx_kinds.specs.declared.facts.StyleFacts.{StyleFacts}
use Rattle.fx_look.specs.declared.looks.Look.{Look}
use Rattle.fx_look.specs.Looks.{initial_look}
use Rattle.fx_node_style.specs.declared.node_styles.NodeStyle.{NodeStyle}
use Rattle.fx_style.specs.Rules.{HaveRows, style_of}
use Rattle.fx_layout_sweeps.specs.Nodes.{AreNodes, keys, parents}
use Rattle.fx_pulse_model.specs.Lines.{AreInOrder}

-- the nodes are those that hang on the root, in pre-order; of each there are the facts for its style, those for its
-- layout, and whether it is disabled itself
pub record Scene : Type 0 where
  pub sheets : List SheetAt
  pub styles : List StyleFacts
  pub boxes : List BoxFacts
  pub disabled : List Bool

abbrev pub births : List BoxFacts → List ℕ
births boxes = map (λ (node : BoxFacts). node.key.birth) boxes

-- The lists tell of the same nodes, which can be styled and laid out: there is a root and at most 4,096 nodes, in
-- pre-order, and no two with one birth number; the sheets are within their limits.
pub record IsScene (scene : Scene) : Type 0 where
  pub some : 0 < length scene.boxes
  pub nodes : AreNodes scene.boxes
  pub order : AreInOrder (parents scene.boxes)
  pub births : IsDistinct eqb (births scene.boxes)
  pub keys : map (λ (node : StyleFacts). node.key) scene.styles ≡ keys scene.boxes
  pub parents : map (λ (node : StyleFacts). node.parent) scene.styles ≡ parents scene.boxes
  pub codes : HaveRows scene.styles
  pub marks : length scene.disabled ≡ length scene.boxes
  pub sheets : AreWithinLimits scene.sheets

abbrev pub look_in : Option NodeStyle → Look
look_in style = option_map_or (λ (made : NodeStyle). made.look) style (initial_look 0)

-- the look of each node, styled from nothing
abbrev pub looks_of : Scene → List Look
looks_of scene =
    map (λ (k : ℕ). look_in (style_of scene.sheets scene.styles k)) (range_with_len 0 (length scene.styles))
