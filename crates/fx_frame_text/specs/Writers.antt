-- What a writer of frames keeps from one frame to the next.
use Rattle.std.specs.Prelude.{◌≡◌, Option}
use Rattle.fx_delta.specs.Pictures.{Picture}
use Rattle.fx_frame_text.specs.Frames.{Image, shown_behind}
use Rattle.fx_frame_text.specs.declared.forms.Form.{Form}
use Rattle.fx_frame_text.specs.declared.forms.Form.TheVariants.{Text, Ppm, Nothing, Delta}
use Rattle.fx_frame_text.specs.declared.writers.FrameWriter.{FrameWriter}

-- where rows of changes are written, a view shows the last frame
abbrev pub IsBehind : Form → Picture → Option Image → Type 0
IsBehind Text shown last = Unit {0}
IsBehind Ppm shown last = Unit {0}
IsBehind Nothing shown last = Unit {0}
IsBehind Delta shown last = shown ≡ shown_behind last

-- the writer stands behind the frame of this image, or before the first one
abbrev pub Follows : FrameWriter → Option Image → Type 0
Follows writer last = IsBehind writer.form writer.view last
