-- What a line of a script prints, whom it tells and what it makes of the world, frames and events aside.
use Rattle.std.specs.Prelude.{ℕ, Bool, true, false, List, [], ◌++◌, map, Option, Some, None, Result, Ok, Err, if◌then◌else◌}
use Rattle.fx_base.specs.declared.keys.Name.{Name}
use Rattle.fx_base.specs.declared.values.Value.{Value}
use Rattle.fx_script_commands.specs.Requests.{Request, asks, defines}
use Rattle.fx_script_lines.specs.declared.instructions.Instruction.{Instruction}
use Rattle.fx_script_lines.specs.declared.instructions.Instruction.TheVariants as line
use Rattle.fx_stage_model.specs.Answers.{Taken}
use Rattle.fx_stage_model.specs.Lines.{instructed, taken}
use Rattle.fx_stage_model.specs.Taking.{outcome_of}
use Rattle.fx_stage_model.specs.World.{World}
use Rattle.fx_stage_text.specs.Printing.{outcome_lines, refused_line, said_line}
use Rattle.fx_stage_types.specs.Words.{word_of}
use Rattle.fx_stage_types.specs.declared.refusals.Refusal.{Refusal}
use Rattle.fx_stage_types.specs.declared.refusals.Refusal.TheVariants as word
use Rattle.fx_store_model.specs.declared.changes.Notices.{Notices}

-- what a line prints, the listeners that it tells, each by its property and number, and the world behind it
pub record Step : Type 0 where
  pub text : List ℕ
  pub heard : List (Name × ℕ)
  pub world : World

-- first who is told that a value is unread, then who is told of another value
abbrev pub heard_in : Notices → List (Name × ℕ)
heard_in notices =
    notices.invalid ++ map (λ (notice : Name × ℕ × Value × Value). (notice.0, notice.1)) notices.changed

-- a line that prints this and changes nothing
abbrev pub printing : List ℕ → World → Step
printing text world = record { text = text; heard = []; world = world }

-- a line that the stage takes: what it makes and whom it tells, or the word that refuses it
abbrev pub answered : ℕ → List (List ℕ) → Result Taken Refusal → World → Step
answered number path (Ok taken) world =
    record {
      text = outcome_lines taken.world.names.written number path (outcome_of taken);
      heard = heard_in taken.notices;
      world = taken.world;
    }
answered number path (Err word) world = printing (refused_line number (word_of word)) world

-- the path of the property that a line asks for
unfoldable pub asked_by : Instruction → List (List ℕ)
asked_by (line.Get path) = path
asked_by other = []

-- The stage takes the line. Event lines, frames, timelines and explanations are taken by others.
unfoldable pub is_carried : Instruction → Bool
is_carried (line.Explain path name) = false
is_carried (line.Say text) = false
is_carried (line.Move x y) = false
is_carried line.Press = false
is_carried line.ReleaseButton = false
is_carried (line.Key name) = false
is_carried (line.Focus path) = false
is_carried line.Tab = false
is_carried line.Backtab = false
is_carried line.Pulse = false
is_carried (line.Timeline label count back) = false
is_carried (line.Keyframe label time path text) = false
is_carried (line.Play label) = false
is_carried (line.Stop label) = false
is_carried (line.Tick time) = false
is_carried other = true

-- what a line says
unfoldable pub saying : Instruction → Option (List ℕ)
saying (line.Say text) = Some text
saying other = None

-- a line that the stage doesn't take says something, or nothing
abbrev pub said_by : Option (List ℕ) → World → Step
said_by None world = printing [] world
said_by (Some text) world = printing (said_line text) world

unfoldable pub instruction_step : ℕ → ℕ → Instruction → World → Step
instruction_step slot number instruction world =
    if is_carried instruction
    then answered number (asked_by instruction) (instructed slot instruction world) world
    else said_by (saying instruction) world

-- The line of this number. What it makes anew, a node or an owner, is kept in this slot.
unfoldable pub line_step : ℕ → ℕ → Request → World → Step
line_step slot number (asks instruction) world = instruction_step slot number instruction world
line_step slot number other world = answered number [] (taken slot other world) world

-- lines that may stand in no action
unfoldable pub is_of_script : Instruction → Bool
is_of_script (line.Resize width height) = true
is_of_script (line.Move x y) = true
is_of_script line.Press = true
is_of_script line.ReleaseButton = true
is_of_script (line.Key name) = true
is_of_script (line.Focus path) = true
is_of_script line.Tab = true
is_of_script line.Backtab = true
is_of_script line.Pulse = true
is_of_script (line.Explain path name) = true
is_of_script (line.Timeline label count back) = true
is_of_script (line.Keyframe label time path text) = true
is_of_script (line.Play label) = true
is_of_script (line.Stop label) = true
is_of_script (line.Tick time) = true
is_of_script other = false

unfoldable pub is_barred : Request → Bool
is_barred (asks instruction) = is_of_script instruction
is_barred (defines name lines) = true
is_barred other = false

-- the same line in an action
unfoldable pub inner_step : ℕ → ℕ → Request → World → Step
inner_step slot number request world =
    if is_barred request then answered number [] (Err word.Syntax) world else line_step slot number request world

-- the line consumes the event for which its action runs
abbrev pub is_consume_line : Instruction → Bool
is_consume_line line.Consume = true
is_consume_line other = false

unfoldable pub is_consume : Request → Bool
is_consume (asks instruction) = is_consume_line instruction
is_consume other = false
