-- What a canvas shows from one frame to the next.
use Rattle.std.specs.Prelude.{◌≡◌, ◌<◌, ℕ, List}
use Rattle.fx_base.specs.declared.geometry.Rect.{Rect}
use Rattle.fx_picture.specs.Pixels.{pixel}
use Rattle.fx_picture.specs.declared.entries.Entry.{Entry}
use Rattle.fx_canvas.specs.Painting.{repainted}
use Rattle.fx_canvas.specs.Surfaces.{Surface, pixel_at}

-- each point has its colour in the picture, from scratch
abbrev pub Shows : Surface → List Entry → Type 0
Shows s entries = (x y : ℕ) → x < s.width → y < s.height → pixel_at s.rows x y ≡ pixel entries x y

-- a canvas whose rectangles were painted anew by a picture
pub record IsRepainted (before : Surface) (entries : List Entry) (rects : List Rect) (after : Surface) : Type 0 where
  pub width : after.width ≡ before.width
  pub height : after.height ≡ before.height
  pub pixels : (x y : ℕ) → x < before.width → y < before.height
      → pixel_at after.rows x y ≡ repainted entries rects x y (pixel_at before.rows x y)
