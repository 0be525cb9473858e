-- What is true of the facts of every world.
use Rattle.std.specs.Prelude.{◌≡◌, ◌<◌, ℕ, All, List, length, map, slice_get, slice_index_or, Option, None, Some}
use Rattle.fx_kinds.specs.declared.facts.BoxFacts.{BoxFacts}
use Rattle.fx_kinds.specs.declared.facts.StyleFacts.{StyleFacts}
use Rattle.fx_look.specs.declared.styles.CodeValue.{CodeValue}
use Rattle.fx_look.specs.declared.styles.TheConstants.{STYLE_COUNT}
use Rattle.fx_stage_model.specs.World.{World}
use Rattle.fx_tree.specs.Scene.{IsSound}
use Rattle.fx_stage_facts.specs.Attached.{attached_keys}
use Rattle.fx_stage_facts.specs.Boxes.{box_facts}
use Rattle.fx_stage_facts.specs.Scenes.{disabled_flags}
use Rattle.fx_stage_facts.specs.Styles.{style_facts}

-- All lists tell of the nodes that stand in the scene, in one order. Each parent stands before its children, and values
-- by code are of rows that the style table has.
pub record AreOneScene (world : World) : Type 0 where
  pub styles : map (λ (node : StyleFacts). node.key) (style_facts world) ≡ attached_keys world
  pub boxes : map (λ (node : BoxFacts). node.key) (box_facts world) ≡ attached_keys world
  pub marks : length (disabled_flags world) ≡ length (attached_keys world)
  pub parents : map (λ (node : StyleFacts). node.parent) (style_facts world)
      ≡ map (λ (node : BoxFacts). node.parent) (box_facts world)
  pub before : (place parent : ℕ) (node : StyleFacts) → slice_get (style_facts world) place ≡ Some node
      → node.parent ≡ Some parent → parent < place
  pub codes :
      All (λ (node : StyleFacts). All (λ (code : CodeValue). code.style.0 < STYLE_COUNT) node.codes) (style_facts world)

abbrev pub FactsFitTogether : Type 0
FactsFitTogether = (world : World) → AreOneScene world

-- the place of each node's parent
abbrev pub parents_of : World → List (Option ℕ)
parents_of world = map (λ (node : BoxFacts). node.parent) (box_facts world)

-- the first node has no parent, and each other one has a parent that stands before it
pub record IsTree (world : World) : Type 0 where
  pub root : slice_index_or (parents_of world) 0 None ≡ None
  pub below : (place : ℕ) → 0 < place → place < length (parents_of world)
      → (parent : ℕ) × (slice_index_or (parents_of world) place None ≡ Some parent) × (parent < place)

abbrev pub NodesAreATree : Type 0
NodesAreATree = (world : World) → IsSound world.graph.tree → IsTree world
