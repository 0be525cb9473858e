-- What taking a line answers, and what is told of it.
use Rattle.std.specs.Prelude.{◌≤ℤ◌, ℕ, pos, All, List, ◌++◌, Option, Some, None, IsSome}
use Rattle.std.specs.List.{sum_by}
use Rattle.std.specs.Option.{option_map}
use Rattle.fx_base.specs.declared.geometry.Rect.{Rect}
use Rattle.fx_frame_text.specs.Frames.{Image, frame_text, image_of, pixel_sum}
use Rattle.fx_frame_text.specs.Writers.{Follows}
use Rattle.fx_frame_text.specs.declared.forms.Form.{Form}
use Rattle.fx_frame_text.specs.declared.writers.FrameWriter.{FrameWriter}
use Rattle.fx_plain_frames.specs.Games.{Game}
use Rattle.fx_plain_frames.specs.Pulses.{area_of, image_in}
use Rattle.fx_plain_steps.specs.Told.{Told, Totals, lines_told}
use Rattle.fx_pulse_model.specs.Frames.{Framed}
use Rattle.fx_play_frames.specs.declared.counting.Counts.{Counts}
use Rattle.fx_play_frames.specs.declared.taking.Shown.{Shown}
use Rattle.fx_play_frames.specs.declared.taking.Taken.{Taken}
use Rattle.fx_play_frames.specs.declared.taking.Taken.TheVariants as taken

abbrev pub totals_in : Counts → Totals
totals_in counts =
    record { frames = counts.frames; area = counts.area; notices = counts.notices; pixels = counts.pixels }

-- what the last frame shows
abbrev pub image_last : Option Framed → Image
image_last None = image_of 0 0 (λ x y. 0)
image_last (Some frame) = image_in frame

abbrev pub frame_totals : Option Framed → Shown → Totals
frame_totals last shown =
    record {
      frames = 1;
      area = sum_by area_of shown.damage.items;
      notices = shown.notices;
      pixels = pixel_sum (image_last last);
    }

-- what is told of a line whose own text is this, where this was the last frame before it
abbrev pub told_as : Form → Option Framed → Game → Taken → List ℕ → Told
told_as form last game (taken.Line notices) text = lines_told text notices
told_as form last game (taken.Frame shown) text =
    record {
      text = frame_text form game.frames (option_map image_in last) shown.damage.items (image_last game.last) ++ text;
      totals = frame_totals game.last shown;
    }

-- the last frame behind the line
abbrev pub last_behind : Taken → Option Framed → Game → Option Framed
last_behind (taken.Line notices) last game = last
last_behind (taken.Frame shown) last game = game.last

-- a writer of frames stands behind this one
abbrev pub IsAt : FrameWriter → Option Framed → Type 0
IsAt writer last = Follows writer (option_map image_in last)

-- where a frame was made there is a last one
abbrev pub HasFrame : Game → Taken → Type 0
HasFrame game (taken.Line notices) = Unit {0}
HasFrame game (taken.Frame shown) = IsSome game.last

-- a rectangle of a window
pub record IsSmallRect (rect : Rect) : Type 0 where
  pub wide : rect.w ≤ℤ pos 4096
  pub high : rect.h ≤ℤ pos 4096

abbrev pub IsSmallTaken : Taken → Type 0
IsSmallTaken (taken.Line notices) = Unit {0}
IsSmallTaken (taken.Frame shown) = All IsSmallRect shown.damage.items
