-- How much work it may be to play lines. Only a `pulse` styles, lays out or paints, and what it may do hangs on what
-- was touched since the last frame, however the frames before it came about. How many expressions a line evaluates is
-- told with what it prints.
use Rattle.std.specs.Prelude.{◌≡◌, ◌≤◌, ◌+◌, ℕ, Bool, true, false, List, [], ◌∷◌, Option, Some, None}
use Rattle.std.specs.List.{sum_by}
use Rattle.fx_canvas.specs.Painting.{most_writes}
use Rattle.fx_frame_text.specs.declared.forms.Form.{Form}
use Rattle.fx_layout.specs.Layouts.{IsLayout}
use Rattle.fx_layout.specs.Updates.{Kept}
use Rattle.fx_plain_frames.specs.Games.{Game}
use Rattle.fx_plain_frames.specs.Playing.{IsTold, is_pulse}
use Rattle.fx_plain_frames.specs.Pulses.{scene_of}
use Rattle.fx_plain_steps.specs.Told.{Told}
use Rattle.fx_pulse_kept.specs.Costs.{AreFew}
use Rattle.fx_pulse_kept.specs.Keeping.{no_layout}
use Rattle.fx_pulse_model.specs.Frames.{Framed, frame_damage}
use Rattle.fx_pulse_model.specs.Scenes.{Scene, looks_of}
use Rattle.fx_script_commands.specs.Requests.{Numbered}

-- so many nodes were styled, panes called to measure or to place, and pixels painted
pub record Counted : Type 0 where
  pub styled : ℕ
  pub laid : ℕ
  pub painted : ℕ

abbrev pub counted : ℕ → ℕ → ℕ → Counted
counted styled laid painted = record { styled = styled; laid = laid; painted = painted }

-- the scene of the last frame, if there was one, and its layout
pub record Sight : Type 0 where
  pub scene : Option Scene
  pub layout : Kept

-- before the first frame
abbrev pub no_sight : Sight
no_sight = record { scene = None; layout = no_layout }

-- as many pixels as painting the damage of a frame may write: for each rectangle its area, and for each shape of the
-- picture the area that they share
abbrev pub paint_bound : Option Framed → Framed → ℕ
paint_bound last frame =
    sum_by (most_writes frame.picture) (frame_damage last frame.picture frame.width frame.height)

-- What a `pulse` does beside telling: its scene is the last one from now on. No more nodes are styled than those that
-- were touched since the last scene and all below them. Panes are called no more than four times for each node that is
-- measured anew, and three times for each whose size is another. And no more is painted than the damage.
pub record IsPulseWork (before now : Game) (seen next : Sight) (old new : Counted) : Type 0 where
  pub frame : Framed
  pub shown : now.last ≡ Some frame
  pub scene : next.scene ≡ Some (scene_of before.world)
  pub layout :
      IsLayout (scene_of before.world).boxes (looks_of (scene_of before.world)) before.world.window next.layout
  pub few :
      AreFew seen.scene (scene_of before.world) seen.layout next.layout old.styled new.styled old.laid new.laid
  pub painted : new.painted ≤ old.painted + paint_bound before.last frame

-- no other line does any of it
abbrev pub IsLineWork : Bool → Game → Game → Sight → Sight → Counted → Counted → Type 0
IsLineWork true before now seen next old new = IsPulseWork before now seen next old new
IsLineWork false before now seen next old new = (next ≡ seen) × (new ≡ old)

-- the work of lines, one after another, with what each of them tells, and how many expressions they evaluate at most
pub data IsWorked (form : Form) : Game → Sight → List Numbered → List Told → Counted → Counted → ℕ → Type 0 where
  no_line : (game : Game) (seen : Sight) (count : Counted) → IsWorked form game seen [] [] count count 0
  one_line : (game next : Game) (seen further : Sight) (line : Numbered) (lines : List Numbered) (told : Told)
      (rest : List Told) (old mid new : Counted) (cost more : ℕ) → IsTold form line game next told cost
      → IsLineWork (is_pulse line.request) game next seen further old mid
      → IsWorked form next further lines rest mid new more
      → IsWorked form game seen (line ∷ lines) (told ∷ rest) old new (cost + more)
