-- What it may cost to bring what is kept of the last scene up to the next one.
use Rattle.std.specs.Prelude.{◌≡◌, ◌≤◌, ◌+◌, ℕ, Bool, List, Option}
use Rattle.fx_layout.specs.Layouts.{IsLayout}
use Rattle.fx_layout.specs.Updates.{Kept as Laid, laid_bound, resized, root_size}
use Rattle.fx_layout_sweeps.specs.Nodes.{parents}
use Rattle.fx_pulse_model.specs.Scenes.{Scene, looks_of}
use Rattle.fx_pulse_touched.specs.Touched.{AreTouched, IsUntouched, remeasured, restyled}
use Rattle.fx_pulse_kept.specs.Keeping.{AreOf}
use Rattle.fx_pulse_kept.specs.Measuring.{AreOthersMarked}
use Rattle.fx_style.specs.Kept.{Kept as Styled}

-- Of the nodes that are touched since the last scene: no more are styled than these and all below them, and panes are
-- called no more than four times for each that is measured anew, and three times for each whose size is another.
pub record AreFew (last : Option Scene) (scene : Scene) (before layout : Laid)
    (styled_before styled laid_before laid : ℕ) : Type 0 where
  pub styles : List Bool
  pub boxes : List Bool
  pub touched : AreTouched last scene styles boxes
  pub few_styled : styled ≤ styled_before + restyled (parents scene.boxes) styles
  pub few_laid : laid
      ≤ laid_before
      + laid_bound (remeasured (parents scene.boxes) styles boxes) (resized before scene.boxes layout)

-- Styles and layout were brought up to a scene in a window: they are those of the scene from nothing, each node that
-- isn't as before is marked, few nodes were worked on, and none where nothing is touched and the root stays as large.
pub record IsBrought (last : Option Scene) (scene : Scene) (window : Option (ℕ × ℕ)) (before : Laid) (styles : Styled)
    (layout : Laid) (marks : List Bool) (styled_before styled laid_before laid : ℕ) : Type 0 where
  pub kept : AreOf scene styles layout
  pub looks : styles.looks ≡ looks_of scene
  pub placed : IsLayout scene.boxes (looks_of scene) window layout
  pub marked : AreOthersMarked last scene marks
  pub few : AreFew last scene before layout styled_before styled laid_before laid
  pub still : IsUntouched last scene → root_size before ≡ root_size layout
      → (styled ≤ styled_before) × (laid ≤ laid_before)
