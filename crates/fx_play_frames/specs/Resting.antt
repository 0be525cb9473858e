-- A game of which a further frame changes nothing.
use Rattle.std.specs.Prelude.{◌≡◌, ℕ, Some}
use Rattle.fx_plain_frames.specs.Pulses.{scene_of, sizes_of}
use Rattle.fx_pulse.specs.Rendering.{Rendering, surface_of}
use Rattle.fx_stage_facts.specs.Attached.{looked}
use Rattle.fx_stage_facts.specs.Boxes.{box_facts}
use Rattle.fx_stage_facts.specs.Publishing.{published, sized}
use Rattle.fx_stage_facts.specs.Resting.{nothing_told}
use Rattle.fx_stage_model.specs.World.{World}

-- the width and the height of what is shown
abbrev pub size_of : Rendering → ℕ × ℕ
size_of seen = ((surface_of seen.canvas).width, (surface_of seen.canvas).height)

-- The scene is the one that was drawn last, and to read what a frame reads and to publish the sizes that were drawn
-- leaves the world as it is, and tells nobody.
pub record IsAtRest (world : World) (seen : Rendering) : Type 0 where
  pub scene : seen.kept.last ≡ Some (scene_of world)
  pub again : published (size_of seen) (sizes_of (box_facts world) seen.rects) (looked world) ≡ world
  pub told : (sized (sizes_of (box_facts world) seen.rects) (looked world)).notices ≡ nothing_told
