-- What a renderer and a stage made of a pulse.
use Rattle.std.specs.Prelude.{◌≡◌, ◌≤◌, ◌+◌, Some}
use Rattle.std.specs.List.{sum_by}
use Rattle.fx_canvas.specs.Painting.{most_writes}
use Rattle.fx_layout.specs.Layouts.{IsLayout}
use Rattle.fx_plain_frames.specs.Drawable.{IsDrawable}
use Rattle.fx_plain_frames.specs.Pulses.{Pulsed, scene_of}
use Rattle.fx_plain_work.specs.Works.{Counted}
use Rattle.fx_pulse.specs.Rendering.{Rendering, last_frame}
use Rattle.fx_pulse.specs.declared.renderer.Frame.{Frame}
use Rattle.fx_pulse_kept.specs.Costs.{AreFew}
use Rattle.fx_pulse_model.specs.Frames.{Framed, IsFrame, frame_damage}
use Rattle.fx_pulse_model.specs.Scenes.{looks_of}
use Rattle.fx_stage_model.specs.World.{World}
use Rattle.fx_play_frames.specs.declared.pulses.Pulsed.{Pulsed as Made}

-- a picture of this size
abbrev pub framed_as : Rendering → Frame → Framed
framed_as now frame = record { width = frame.width; height = frame.height; picture = now.picture }

abbrev pub pulsed_as : Rendering → Made → Pulsed
pulsed_as now made =
    record { frame = framed_as now made.frame; damage = made.frame.damage.items; notices = made.told.notices }

-- the frame is that of the world's scene
pub record IsDrawnAs (world : World) (before now : Rendering) (frame : Frame) : Type 0 where
  pub shown : IsFrame (scene_of world) world.window frame.width frame.height now.rects now.picture
  pub damage : frame.damage.items ≡ frame_damage (last_frame before) now.picture frame.width frame.height
  pub last : last_frame now ≡ Some (framed_as now frame)
  pub drawable : IsDrawable (framed_as now frame)

-- no more was worked for it than may be
pub record IsDrawWork (world : World) (before now : Rendering) (frame : Frame) (old new : Counted) : Type 0 where
  pub scene : now.kept.last ≡ Some (scene_of world)
  pub layout : IsLayout (scene_of world).boxes (looks_of (scene_of world)) world.window now.kept.layout
  pub few : AreFew before.kept.last (scene_of world) before.kept.layout now.kept.layout
      old.styled new.styled old.laid new.laid
  pub painted : new.painted ≤ old.painted + sum_by (most_writes now.picture) frame.damage.items
