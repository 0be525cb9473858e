-- What is kept of the last scene from one frame to the next, and that it is what the scene gives from nothing.
use Rattle.std.specs.Prelude.{◌≡◌, ℕ, Bool, false, List, [], length, slice_get, Option, Some, None, IfSome}
use Rattle.std.specs.Option.{option_map}
use Rattle.fx_kinds.specs.declared.facts.BoxFacts.{BoxFacts}
use Rattle.fx_kinds.specs.declared.facts.StyleFacts.{StyleFacts}
use Rattle.fx_style.specs.Kept.{Kept as Styled, entry, entry_in}
use Rattle.fx_style.specs.Rules.{style_of}
use Rattle.fx_layout.specs.Layouts.{IsLayout}
use Rattle.fx_layout.specs.Updates.{Kept as Laid}
use Rattle.fx_pulse_model.specs.Scenes.{IsScene, Scene, looks_of}

-- styles and layout, and the scene that they are of; without one they are made afresh
pub record Keeping : Type 0 where
  pub styles : Styled
  pub layout : Laid
  pub last : Option Scene

-- before the first scene
abbrev pub no_layout : Laid
no_layout = record { keys = []; children = []; widths = []; heights = []; across = []; down = []; rects = [] }

-- the nodes of the scene, if there is one
abbrev pub boxes_in : Option Scene → List BoxFacts
boxes_in None = []
boxes_in (Some scene) = scene.boxes

-- each node has its key and its style from nothing
pub record AreStyled (scene : Scene) (kept : Styled) : Type 0 where
  pub looks : length kept.looks ≡ length scene.styles
  pub rest : length kept.rest ≡ length scene.styles
  pub each : (at : ℕ) (node : StyleFacts) → slice_get scene.styles at ≡ Some node
      → entry_in kept.looks kept.rest at ≡ option_map (entry node.key) (style_of scene.sheets scene.styles at)

-- styles and layout are those of a scene from nothing, in some window
pub record AreOf (scene : Scene) (styles : Styled) (layout : Laid) : Type 0 where
  pub drawable : IsScene scene
  pub styled : AreStyled scene styles
  pub window : Option (ℕ × ℕ)
  pub laid : IsLayout scene.boxes (looks_of scene) window layout

abbrev pub Agrees : Keeping → Type 0
Agrees k = IfSome k.last (λ (scene : Scene). AreOf scene k.styles k.layout)

-- the facts for style of the last scene, of which the root isn't marked
pub record AreStylesBefore (last : Option Scene) (marks : List Bool) (olds : List StyleFacts) : Type 0 where
  pub scene : Scene
  pub is : last ≡ Some scene
  pub styles : scene.styles ≡ olds
  pub root : slice_get marks 0 ≡ Some false
