-- The frame of a scene can be drawn.
use Rattle.std.proofs.Common.{◌≡◌, ℕ, true, List, Option}
use Rattle.fx_base.specs.declared.geometry.Rect.{Rect}
use Rattle.fx_delta.specs.Pictures.{is_size}
use Rattle.fx_picture.specs.declared.entries.Entry.{Entry}
use Rattle.fx_plain_frames.specs.Drawable.{ArePixels, IsDrawable}
use Rattle.fx_pulse_model.proofs.PictureLemmas.{differ, rises}
use Rattle.fx_pulse_model.specs.Frames.{IsFrame, drawn_in}
use Rattle.fx_pulse_model.specs.Scenes.{IsScene, Scene}

pub drawable : (scene : Scene) (window : Option (ℕ × ℕ)) (w h : ℕ) (rects : List Rect) (picture : List Entry)
    → IsScene scene → IsFrame scene window w h rects picture → is_size w h ≡ true
    → ArePixels w h picture
    → IsDrawable (record { width = w; height = h; picture = picture })
drawable scene window w h rects picture is frame sized pixels =
    record {
      sized = sized;
      rises = rises (drawn_in scene rects) picture is.order frame.shown;
      births = differ (drawn_in scene rects) picture is.births frame.shown;
      pixels = pixels;
    }
