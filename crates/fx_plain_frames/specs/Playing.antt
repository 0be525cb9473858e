-- What the lines of a script tell, one after another.
use Rattle.std.specs.Prelude.{◌≡◌, ◌+◌, ℕ, Bool, true, false, List, [], ◌∷◌, length, Option, Some, None, if◌then◌else◌}
use Rattle.fx_frame_text.specs.declared.forms.Form.{Form}
use Rattle.fx_plain_dispatch.specs.Settling.{IsSettledWhole}
use Rattle.fx_plain_dispatch.specs.Taking.{IsLine}
use Rattle.fx_plain_explain.specs.Explaining.{IsExplainLine, explain_cost, find_attached}
use Rattle.fx_plain_steps.specs.Courses.{Course}
use Rattle.fx_plain_steps.specs.Lines.{Step}
use Rattle.fx_plain_steps.specs.Told.{Told, lines_told}
use Rattle.fx_plain_times.specs.Lines.{is_time_line, time_cost, time_step}
use Rattle.fx_script_commands.specs.Requests.{Numbered, Request, asks}
use Rattle.fx_script_lines.specs.declared.instructions.Instruction.{Instruction}
use Rattle.fx_script_lines.specs.declared.instructions.Instruction.TheVariants.{Explain, Pulse}
use Rattle.fx_plain_frames.specs.Games.{Game, entries_in, with_world}
use Rattle.fx_plain_frames.specs.Pulses.{IsPulsed, Pulsed, course_behind, told_of}

abbrev pub is_pulse_line : Instruction → Bool
is_pulse_line Pulse = true
is_pulse_line other = false

unfoldable pub is_pulse : Request → Bool
is_pulse (asks instruction) = is_pulse_line instruction
is_pulse other = false

-- the line, if it is one on timelines
unfoldable pub time_line : Request → Option Instruction
time_line (asks instruction) = if is_time_line instruction then Some instruction else None
time_line other = None

-- the path of a node and the name of a property, if the line asks why the property is as it is
abbrev pub explained_in : Instruction → Option (List (List ℕ) × List ℕ)
explained_in (Explain path name) = Some (path, name)
explained_in other = None

unfoldable pub explained_by : Request → Option (List (List ℕ) × List ℕ)
explained_by (asks instruction) = explained_in instruction
explained_by other = None

-- a frame is told, and then the actions run of the listeners that were told of the sizes
pub record IsShown (form : Form) (number : ℕ) (before now : Game) (told : Told) (cost : ℕ) : Type 0 where
  pub pulsed : Pulsed
  pub drawn : Game
  pub own : ℕ
  pub made : IsPulsed before drawn pulsed own
  pub course : Course
  pub further : ℕ
  pub settled : IsSettledWhole number (course_behind drawn.world pulsed.notices) course further
  pub after : now ≡ with_world course.world drawn
  pub told_so : told ≡ told_of form before drawn pulsed course
  pub sum : cost ≡ own + further

-- a line on timelines: what it makes of them, and then the actions of the listeners that were told of what it sets
pub record IsTimed (number : ℕ) (instruction : Instruction) (before now : Game) (told : Told) (cost : ℕ) : Type 0 where
  pub course : Course
  pub further : ℕ
  pub settled : IsSettledWhole number (time_step number instruction before.clock before.world).course course further
  pub after : now ≡ record (with_world course.world before) {
    clock = (time_step number instruction before.clock before.world).clock;
  }
  pub told_so : told ≡ lines_told course.text (length course.heard)
  pub sum : cost ≡ time_cost instruction before.clock before.world + further

-- a line that asks why a property is as it is
pub record IsExplained (number : ℕ) (asked : List (List ℕ) × List ℕ) (before now : Game) (told : Told) (cost : ℕ)
    : Type 0 where
  pub step : Step
  pub explained : IsExplainLine number asked.0 asked.1 before.world step
  pub after : now ≡ with_world step.world before
  pub told_so : told ≡ lines_told step.text (length step.heard)
  pub sum : cost ≡ explain_cost before.world (find_attached before.world asked.0)

-- any other line, which meets the last picture
pub record IsStep (line : Numbered) (before now : Game) (told : Told) (cost : ℕ) : Type 0 where
  pub course : Course
  pub taken : IsLine (entries_in before.last) line before.world course cost
  pub after : now ≡ with_world course.world before
  pub told_so : told ≡ lines_told course.text (length course.heard)

-- a line that draws no frame
abbrev pub IsToldOf
    : Option Instruction → Option (List (List ℕ) × List ℕ) → Numbered → Game → Game → Told → ℕ → Type 0
IsToldOf (Some instruction) asked line before now told = IsTimed line.number instruction before now told
IsToldOf None (Some asked) line before now told = IsExplained line.number asked before now told
IsToldOf None None line before now told = IsStep line before now told

abbrev pub IsToldBy : Bool → Form → Numbered → Game → Game → Told → ℕ → Type 0
IsToldBy true form line before now told = IsShown form line.number before now told
IsToldBy false form line before now told =
    IsToldOf (time_line line.request) (explained_by line.request) line before now told

-- what is told of a line, the game behind it, and how many expressions the line evaluates at most
abbrev pub IsTold : Form → Numbered → Game → Game → Told → ℕ → Type 0
IsTold form line before now told = IsToldBy (is_pulse line.request) form line before now told

-- what is told of each of the lines, one after another
pub data IsPlayed (form : Form) : Game → List Numbered → List Told → Type 0 where
  no_line : (game : Game) → IsPlayed form game [] []
  one_line : (game next : Game) (line : Numbered) (lines : List Numbered) (told : Told) (rest : List Told) (cost : ℕ)
      → IsTold form line game next told cost → IsPlayed form next lines rest
      → IsPlayed form game (line ∷ lines) (told ∷ rest)
