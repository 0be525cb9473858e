-- The slots of memory in which the lines of a script keep what they make.
use Rattle.std.specs.Prelude.{◌≡◌, ℕ, Bool, true, false, List, [], ◌++◌, Option, Some, None}
use Rattle.fx_frame_text.specs.declared.forms.Form.{Form}
use Rattle.fx_plain_frames.specs.Games.{Game, entries_in}
use Rattle.fx_plain_frames.specs.Playing.{IsPlayed, IsTold, IsToldBy, IsToldOf, explained_by, is_pulse, no_line, one_line, time_line}
use Rattle.fx_plain_frames.specs.Pulses.{course_behind, scene_of}
use Rattle.fx_plain_steps.specs.Told.{Told}
use Rattle.fx_plain_times.specs.Lines.{time_step}
use Rattle.fx_pulse_model.specs.Scenes.{IsScene}
use Rattle.fx_script_commands.specs.Requests.{Numbered}
use Rattle.fx_script_lines.specs.declared.instructions.Instruction.{Instruction}
use Rattle.fx_plain_laws.specs.Lines.{slots_of_line}
use Rattle.fx_plain_laws.specs.Slots.{slots_of_settling}

-- of a line that draws no frame; one that explains makes nothing
abbrev pub slots_of_told_of : (timed : Option Instruction) (asked : Option (List (List ℕ) × List ℕ)) (line : Numbered)
    (before now : Game) (told : Told) (cost : ℕ) → IsToldOf timed asked line before now told cost → List ℕ
slots_of_told_of (Some instruction) asked line before now told cost is =
    slots_of_settling line.number 1000 0 (time_step line.number instruction before.clock before.world).course is.course
    is.further is.settled
slots_of_told_of None (Some asked) line before now told cost is = []
slots_of_told_of None None line before now told cost is =
    slots_of_line (entries_in before.last) line before.world is.course cost is.taken

abbrev pub slots_of_told_by : (draws : Bool) (form : Form) (line : Numbered) (before now : Game) (told : Told)
    (cost : ℕ) → IsToldBy draws form line before now told cost → List ℕ
slots_of_told_by true form line before now told cost is =
    slots_of_settling line.number 1000 0 (course_behind is.drawn.world is.pulsed.notices) is.course is.further
    is.settled
slots_of_told_by false form line before now told cost is =
    slots_of_told_of (time_line line.request) (explained_by line.request) line before now told cost is

-- of any line of a script
abbrev pub slots_of_told : (form : Form) (line : Numbered) (before now : Game) (told : Told) (cost : ℕ)
    → IsTold form line before now told cost → List ℕ
slots_of_told form line before now told cost is =
    slots_of_told_by (is_pulse line.request) form line before now told cost is

-- of all lines
abbrev pub slots_of_script : (form : Form) (first : Game) (lines : List Numbered) (tolds : List Told)
    → IsPlayed form first lines tolds → List ℕ
slots_of_script form first lines tolds (no_line game) = []
slots_of_script form first lines tolds (one_line game next line others told rest cost is played) =
    slots_of_told form line game next told cost is ++ slots_of_script form next others rest played

-- each scene that is drawn is in order
abbrev pub DrawsInOrder : (form : Form) (first : Game) (lines : List Numbered) (tolds : List Told)
    → IsPlayed form first lines tolds → Type 0
DrawsInOrder form first lines tolds (no_line game) = Unit {0}
DrawsInOrder form first lines tolds (one_line game next line others told rest cost is played) =
    (is_pulse line.request ≡ true → IsScene (scene_of game.world)) × DrawsInOrder form next others rest played

-- two courses of a script that keep what they make in the same slots tell the same
abbrev pub OneScript : Type 0
OneScript = (form : Form) (first : Game) (lines : List Numbered) (tolds tells : List Told)
    (one : IsPlayed form first lines tolds) (other : IsPlayed form first lines tells)
    → DrawsInOrder form first lines tolds one
    → slots_of_script form first lines tolds one ≡ slots_of_script form first lines tells other → tolds ≡ tells
