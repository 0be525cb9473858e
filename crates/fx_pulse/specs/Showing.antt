-- A frame that was made is shown.
use Rattle.std.specs.Prelude.{◌≡◌}
use Rattle.fx_canvas_laws.specs.Frames.{Shows}
use Rattle.fx_pulse_model.specs.Frames.{frame_damage}
use Rattle.fx_pulse.specs.Editing.{entries_after}
use Rattle.fx_pulse.specs.Rendering.{Rendering, last_frame, surface_of}
use Rattle.fx_pulse.specs.declared.frames.Made.{Made}
use Rattle.fx_pulse.specs.declared.renderer.Frame.{Frame}

-- what was made is kept and shown, on a canvas of its size, and the damage is against the last picture
pub record IsShowing (made : Made) (old new : Rendering) (frame : Frame) : Type 0 where
  pub width : frame.width ≡ made.width
  pub height : frame.height ≡ made.height
  pub picture : new.picture ≡ entries_after made.next old.picture
  pub rects : new.rects ≡ made.rects.items
  pub kept : new.kept ≡ old.kept
  pub columns : (surface_of new.canvas).width ≡ made.width
  pub rows : (surface_of new.canvas).height ≡ made.height
  pub shows : Shows (surface_of new.canvas) new.picture
  pub damage : frame.damage.items ≡ frame_damage (last_frame old) new.picture made.width made.height
