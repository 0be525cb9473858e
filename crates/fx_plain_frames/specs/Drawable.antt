-- Frames that can be drawn.
use Rattle.std.specs.Prelude.{◌≡◌, ◌<◌, ◌^◌, ℕ, true, List}
use Rattle.fx_delta.specs.Pictures.{is_size}
use Rattle.fx_picture.specs.Entries.{HasDistinctBirths, Rises}
use Rattle.fx_picture.specs.Pixels.{pixel}
use Rattle.fx_picture.specs.declared.entries.Entry.{Entry}
use Rattle.fx_pulse_model.specs.Frames.{Framed}

-- the pixels of a picture within a window, of three bytes each
abbrev pub ArePixels : ℕ → ℕ → List Entry → Type 0
ArePixels width height picture = (x y : ℕ) → x < width → y < height → pixel picture x y < 2 ^ 24

-- A frame that can be drawn: it has at least one pixel each way and at most 2,048, its nodes stand in pre-order, no
-- two of them have one birth number, and its pixels are of three bytes.
pub record IsDrawable (drawn : Framed) : Type 0 where
  pub sized : is_size drawn.width drawn.height ≡ true
  pub rises : Rises drawn.picture
  pub births : HasDistinctBirths drawn.picture
  pub pixels : ArePixels drawn.width drawn.height drawn.picture
