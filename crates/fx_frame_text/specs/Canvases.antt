-- What a canvas shows, as a picture.
use Rattle.std.specs.Prelude.{◌≡◌, ◌<◌, ℕ, false}
use Rattle.fx_canvas.specs.Surfaces.{Surface, row_at}
use Rattle.fx_frame_text.specs.Frames.{Image}
use Rattle.fx_frame_text.specs.declared.forms.Form.{Form}
use Rattle.fx_frame_text.specs.declared.forms.Form.TheVariants.{Text, Ppm, Nothing, Delta}

abbrev pub image_on : Surface → Image
image_on surface =
    record { width = surface.width; height = surface.height; row = λ y. (row_at surface.rows y).pixels }

-- no text of a row is out of date
abbrev pub AreTold : Surface → Type 0
AreTold surface = (y : ℕ) → y < surface.height → (row_at surface.rows y).stale ≡ false

-- where rows of text are written
abbrev pub IsFresh : Form → Surface → Type 0
IsFresh Text surface = AreTold surface
IsFresh Ppm surface = Unit {0}
IsFresh Nothing surface = Unit {0}
IsFresh Delta surface = Unit {0}
