-- What a `pulse` makes and tells.
use Rattle.std.specs.Prelude.{◌≡◌, ℕ, ◌+◌, ◌*◌, false, List, [], ◌∷◌, ◌++◌, length, Option, Some}
use Rattle.std.specs.List.{sum_by}
use Rattle.std.specs.Option.{option_map}
use Rattle.fx_base.specs.declared.geometry.Rect.{Rect}
use Rattle.fx_frame_text.specs.Frames.{Image, frame_text, image_of, pixel_sum}
use Rattle.fx_frame_text.specs.declared.forms.Form.{Form}
use Rattle.fx_picture.specs.Pixels.{pixel}
use Rattle.fx_picture.specs.Shapes.{whole}
use Rattle.fx_plain_explain.specs.Facts.{Size, box_facts, disabled_flags, look_cost, looked, published, sheets_of, sized, style_facts}
use Rattle.fx_plain_steps.specs.Courses.{Course}
use Rattle.fx_plain_steps.specs.Lines.{heard_in}
use Rattle.fx_plain_steps.specs.Told.{Told}
use Rattle.fx_pulse_model.specs.Frames.{Framed, IsFrame, frame_damage}
use Rattle.fx_pulse_model.specs.Scenes.{Scene}
use Rattle.fx_kinds.specs.declared.facts.BoxFacts.{BoxFacts}
use Rattle.fx_stage_model.specs.World.{World}
use Rattle.fx_stage_text.specs.Printing.{notice_lines}
use Rattle.fx_store_model.specs.declared.changes.Notices.{Notices}
use Rattle.fx_plain_frames.specs.Drawable.{IsDrawable}
use Rattle.fx_plain_frames.specs.Games.{Game}

-- what a frame is made of
abbrev pub scene_of : World → Scene
scene_of world =
    record {
      sheets = sheets_of world;
      styles = style_facts world;
      boxes = box_facts world;
      disabled = disabled_flags world;
    }

-- each node with its width and its height
abbrev pub sizes_of : List BoxFacts → List Rect → List Size
sizes_of [] rects = []
sizes_of (node ∷ nodes) [] = []
sizes_of (node ∷ nodes) (rect ∷ rects) = (node.key, rect.w, rect.h) ∷ sizes_of nodes rects

-- what a frame shows
abbrev pub image_in : Framed → Image
image_in frame = image_of frame.width frame.height (pixel frame.picture)

-- a frame that was made: what of the window may be another than before, and who was told that sizes are others
pub record Pulsed : Type 0 where
  pub frame : Framed
  pub damage : List Rect
  pub notices : Notices

-- The present scene, styled, laid out and drawn from nothing, is the next frame, which can be drawn, and the sizes of
-- its nodes are published behind it, as one change. The expressions that it evaluates at most are those that its reads
-- ask for, and those of that change.
pub record IsDrawn (before now : World) (last next : Option Framed) (pulsed : Pulsed) (cost : ℕ) : Type 0 where
  pub rects : List Rect
  pub shown : IsFrame (scene_of before) before.window pulsed.frame.width pulsed.frame.height rects pulsed.frame.picture
  pub drawable : IsDrawable pulsed.frame
  pub damage : pulsed.damage ≡ frame_damage last pulsed.frame.picture pulsed.frame.width pulsed.frame.height
  pub published : now
      ≡ published (pulsed.frame.width, pulsed.frame.height) (sizes_of (box_facts before) rects) (looked before)
  pub notices : pulsed.notices ≡ (sized (sizes_of (box_facts before) rects) (looked before)).notices
  pub last_one : next ≡ Some pulsed.frame
  pub sum : cost ≡ look_cost before + (sized (sizes_of (box_facts before) rects) (looked before)).cost

-- a frame more was made, and the timelines stay as they are
pub record IsPulsed (before now : Game) (pulsed : Pulsed) (cost : ℕ) : Type 0 where
  pub drawn : IsDrawn before.world now.world before.last now.last pulsed cost
  pub count : now.frames ≡ before.frames + 1
  pub clock : now.clock ≡ before.clock

-- so many pixels are damaged
abbrev pub area_of : Rect → ℕ
area_of rect = whole rect.w * whole rect.h

-- behind the frame, those who were told of the sizes are told of, and none of their actions ran yet
abbrev pub course_behind : World → Notices → Course
course_behind world notices =
    record {
      world = world;
      text = notice_lines world.names.written notices;
      heard = heard_in notices;
      consumed = false;
    }

-- what is told of it: the frame, and then what the course behind it printed
abbrev pub told_of : Form → Game → Game → Pulsed → Course → Told
told_of form before now pulsed course =
    record {
      text = frame_text form now.frames (option_map image_in before.last) pulsed.damage (image_in pulsed.frame)
          ++ course.text;
      totals = record {
        frames = 1;
        area = sum_by area_of pulsed.damage;
        notices = length course.heard;
        pixels = pixel_sum (image_in pulsed.frame);
      };
    }
