-- Which nodes of a scene are touched since the last one, and which of them a frame works on therefore.
use Rattle.std.specs.Prelude.{◌≡◌, ◌↔◌, ℕ, ◌<◌, Bool, false, ◌||◌, List, length, slice_get, Option, Some, None}
use Rattle.fx_layout_sweeps.specs.Marks.{flag_in}
use Rattle.fx_layout_sweeps.specs.Nodes.{Parents, keys, parents}
use Rattle.fx_layout_sweeps.specs.Sweeps.{tally}
use Rattle.fx_pulse_model.specs.Scenes.{Scene}
use Rattle.fx_pulse_touched.specs.Marks.{is_above, is_below}

-- the same nodes hang under the same parents in the same order, and the sheets are the same
pub record HaveOneShape (old new : Scene) : Type 0 where
  pub sheets : old.sheets ≡ new.sheets
  pub keys : keys old.boxes ≡ keys new.boxes
  pub parents : parents old.boxes ≡ parents new.boxes

-- there was a scene of this shape
abbrev pub IsOfShape : Option Scene → Scene → Type 0
IsOfShape None scene = ⊥
IsOfShape (Some last) scene = HaveOneShape last scene

-- there was a scene of this shape, and the facts for the style of a node are as they were
abbrev pub IsStyledAsBefore : Option Scene → Scene → ℕ → Type 0
IsStyledAsBefore None scene k = ⊥
IsStyledAsBefore (Some last) scene k = HaveOneShape last scene × (slice_get last.styles k ≡ slice_get scene.styles k)

-- and those for its layout
abbrev pub IsLaidAsBefore : Option Scene → Scene → ℕ → Type 0
IsLaidAsBefore None scene k = ⊥
IsLaidAsBefore (Some last) scene k = HaveOneShape last scene × (slice_get last.boxes k ≡ slice_get scene.boxes k)

-- Marks of the touched nodes: all but those whose facts are as before, for style and for layout.
pub record AreTouched (last : Option Scene) (scene : Scene) (styles boxes : List Bool) : Type 0 where
  pub each_style : length styles ≡ length scene.styles
  pub each_box : length boxes ≡ length scene.boxes
  pub styled : (k : ℕ) → k < length scene.styles → (flag_in styles k ≡ false) ↔ IsStyledAsBefore last scene k
  pub laid : (k : ℕ) → k < length scene.boxes → (flag_in boxes k ≡ false) ↔ IsLaidAsBefore last scene k

-- a node is styled anew where its facts for style are touched, or those of an ancestor
abbrev pub is_restyled : Parents → List Bool → ℕ → Bool
is_restyled ups styles k = is_below ups styles k

-- a node is measured anew where it or a node below it is styled anew, or its facts for layout are touched
abbrev pub is_remeasured : Parents → List Bool → List Bool → ℕ → Bool
is_remeasured ups styles boxes k = is_above ups (λ j. is_restyled ups styles j || flag_in boxes j) k

-- how many nodes are styled anew
abbrev pub restyled : Parents → List Bool → ℕ
restyled ups styles = tally (is_restyled ups styles) (length ups)

-- how many are measured anew
abbrev pub remeasured : Parents → List Bool → List Bool → ℕ
remeasured ups styles boxes = tally (is_remeasured ups styles boxes) (length ups)

-- no node is touched, and the sheets are the same
abbrev pub IsUntouched : Option Scene → Scene → Type 0
IsUntouched None scene = ⊥
IsUntouched (Some last) scene =
    (last.sheets ≡ scene.sheets) × (last.styles ≡ scene.styles) × (last.boxes ≡ scene.boxes)
