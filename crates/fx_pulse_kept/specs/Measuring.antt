-- Which nodes are measured anew, as the code marks them.
use Rattle.std.specs.Prelude.{◌≡◌, ℕ, ◌<◌, Bool, true, false, ◌||◌, List, length, slice_get, Option, Some, None}
use Rattle.fx_kinds.specs.declared.facts.BoxFacts.{BoxFacts}
use Rattle.fx_layout_sweeps.specs.Marks.{flag_in}
use Rattle.fx_layout_sweeps.specs.Nodes.{look_at, parents}
use Rattle.fx_style.specs.Kept.{is_among}
use Rattle.fx_pulse_model.specs.Scenes.{Scene, looks_of}
use Rattle.fx_pulse_touched.specs.Marks.{IsClosed, is_above}
use Rattle.fx_pulse_touched.specs.Touched.{HaveOneShape}

-- Marked are the touched nodes, those that were styled anew of which the look may be another, and all that are above
-- them, and no node is marked that isn't above one that is touched or was styled anew.
pub record AreMeasuredAnew (boxes : List BoxFacts) (touched restyled : List Bool) (changed : List ℕ)
    (marks : List Bool) : Type 0 where
  pub each : length marks ≡ length boxes
  pub facts : (k : ℕ) → k < length boxes → flag_in touched k ≡ true → flag_in marks k ≡ true
  pub looks : (k : ℕ) → k < length boxes → flag_in restyled k ≡ true → is_among changed k ≡ true
      → flag_in marks k ≡ true
  pub closed : IsClosed (parents boxes) marks
  pub only : (k : ℕ) → flag_in marks k ≡ true
      → is_above (parents boxes) (λ j. flag_in restyled j || flag_in touched j) k ≡ true

-- there was a scene of this shape, and a node has the facts for layout and the look that it had in it
abbrev pub IsAsBefore : Option Scene → Scene → ℕ → Type 0
IsAsBefore None scene k = ⊥
IsAsBefore (Some last) scene k =
    HaveOneShape last scene × (slice_get last.boxes k ≡ slice_get scene.boxes k)
    × (look_at (looks_of last) k ≡ look_at (looks_of scene) k)

-- each node that isn't as before is marked
pub record AreOthersMarked (last : Option Scene) (scene : Scene) (marks : List Bool) : Type 0 where
  pub each : length marks ≡ length scene.boxes
  pub as_before : (k : ℕ) → k < length scene.boxes → flag_in marks k ≡ false → IsAsBefore last scene k
