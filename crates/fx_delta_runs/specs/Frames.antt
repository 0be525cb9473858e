-- Frames that follow one another, with what is told between them, and each as a part of a stream.
use Rattle.std.specs.Prelude.{◌≡◌, ◌<◌, ℕ, ◌+◌, List, [], ◌∷◌, ◌++◌, All, IfSome, Option, Some, None, map}
use Rattle.std.specs.List.{flat_map}
use Rattle.std.specs.Option.{option_map}
use Rattle.fx_base.specs.declared.color.Color.{Color}
use Rattle.fx_base.specs.declared.geometry.Rect.{Rect}
use Rattle.fx_delta.specs.Items.{ended}
use Rattle.fx_delta.specs.Pictures.{Picture}
use Rattle.fx_delta_laws.specs.Streams.{Area, Frame, IsBetween, IsFrame, frame, frame_picture, frames_of, stream_of}
use Rattle.fx_frame_text.specs.Frames.{damage_items, frame_text, shown_behind}
use Rattle.fx_frame_text.specs.declared.forms.Form.{Form}
use Rattle.fx_frame_text.specs.declared.forms.Form.TheVariants.{Text, Delta}
use Rattle.fx_picture.specs.Shapes.{whole}
use Rattle.fx_plain_frames.specs.Drawable.{IsDrawable}
use Rattle.fx_plain_frames.specs.Pulses.{image_in}
use Rattle.fx_plain_steps.specs.Told.{Told, Totals}
use Rattle.fx_pulse_model.specs.Frames.{Framed, frame_damage}

-- channels that are bytes
pub record IsColor (color : Color) : Type 0 where
  pub red : color.r < 256
  pub green : color.g < 256
  pub blue : color.b < 256
  pub opacity : color.a < 256

-- what a frame damages of the one before it, if there was one
abbrev pub damage_behind : Option Framed → Framed → List Rect
damage_behind last next = frame_damage last next.picture next.width next.height

-- what is written of the frame of this number behind the one before it
abbrev pub text_behind : Form → ℕ → Option Framed → Framed → List ℕ
text_behind form number last next =
    frame_text form number (option_map image_in last) (damage_behind last next) (image_in next)

-- what a viewer shows behind a frame, and before the first one
abbrev pub picture_behind : Option Framed → Picture
picture_behind last = shown_behind (option_map image_in last)

abbrev pub area_of : Rect → Area
area_of r = record { x = whole r.x; y = whole r.y; w = whole r.w; h = whole r.h }

-- the frame as a part of a stream: its damage, and the rows of it
abbrev pub part_behind : ℕ → Option Framed → Framed → Frame
part_behind number last next =
    record {
      number = number;
      width = next.width;
      height = next.height;
      areas = map area_of (damage_behind last next);
      items = damage_items (image_in next) (damage_behind last next);
    }

-- A frame is sent as a part of a stream: its changed rows make its image of what is shown, so a viewer writes its text.
pub record IsSent (number : ℕ) (last : Option Framed) (next : Framed) : Type 0 where
  pub good : IsFrame (part_behind number last next)
  pub shown : frame_picture (picture_behind last) (part_behind number last next) ≡ picture_behind (Some next)
  pub stream : text_behind Delta number last next
      ≡ stream_of (picture_behind last) (frame (part_behind number last next) ∷ [])
  pub frames : text_behind Text number last next
      ≡ frames_of (picture_behind last) (frame (part_behind number last next) ∷ [])

-- what a line of a script tells, apart from the form of frames: its frame, if it draws one, then what it prints, and
-- what it adds to the totals
pub record Telling : Type 0 where
  pub frame : Option Framed
  pub text : List ℕ
  pub totals : Totals

-- how many frames there are behind another one, if there is another
abbrev pub number_behind : ℕ → Option Framed → ℕ
number_behind number None = number
number_behind number (Some next) = number + 1

-- the last frame then
abbrev pub last_behind : Option Framed → Option Framed → Option Framed
last_behind last None = last
last_behind last (Some next) = Some next

-- what is written of a frame, if there is one
abbrev pub frame_behind : Form → ℕ → Option Framed → Option Framed → List ℕ
frame_behind form number last None = []
frame_behind form number last (Some next) = text_behind form (number + 1) last next

-- what is told with frames in this form, behind so many frames and the last of them
abbrev pub told_in : Form → ℕ → Option Framed → Telling → Told
told_in form number last telling =
    record { text = frame_behind form number last telling.frame ++ telling.text; totals = telling.totals }

-- all that is told, one behind the other
abbrev pub tolds_in : Form → ℕ → Option Framed → List Telling → List Told
tolds_in form number last [] = []
tolds_in form number last (telling ∷ more) =
    told_in form number last telling
    ∷ tolds_in form (number_behind number telling.frame) (last_behind last telling.frame) more

-- whole lines, of which none is taken for a line of a frame
pub record AreLines (text : List ℕ) : Type 0 where
  pub lines : List (List ℕ)
  pub ended_so : text ≡ flat_map ended lines
  pub between : All IsBetween lines

-- the frame can be drawn, and what is printed is such lines
pub record IsProper (telling : Telling) : Type 0 where
  pub frame : IfSome telling.frame IsDrawable
  pub text : AreLines telling.text

-- each frame of these can be drawn
abbrev pub AreDrawn : List Telling → Type 0
AreDrawn tellings = All (λ (telling : Telling). IfSome telling.frame IsDrawable) tellings
