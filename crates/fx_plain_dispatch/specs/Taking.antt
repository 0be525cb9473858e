-- A whole line of a script but `pulse`: what it does itself, and then the actions of the listeners that were told; and
-- how many expressions it evaluates at most.
use Rattle.std.specs.Prelude.{◌≡◌, ◌+◌, ℕ, Bool, true, false, List, [], Result, Ok, Err}
use Rattle.fx_event_lines.specs.Started.{Started}
use Rattle.fx_event_lines.specs.Starting.{is_event_line, started}
use Rattle.fx_picture.specs.declared.entries.Entry.{Entry}
use Rattle.fx_plain_steps.specs.Courses.{Course, after, begun}
use Rattle.fx_plain_steps.specs.Lines.{answered, line_step}
use Rattle.fx_script_commands.specs.Requests.{Numbered, Request, asks}
use Rattle.fx_script_lines.specs.declared.instructions.Instruction.{Instruction}
use Rattle.fx_stage_model.specs.Answers.{cost_of}
use Rattle.fx_stage_model.specs.Lines.{taken}
use Rattle.fx_stage_model.specs.World.{World}
use Rattle.fx_stage_types.specs.declared.refusals.Refusal.{Refusal}
use Rattle.fx_plain_dispatch.specs.Sending.{AreSent}
use Rattle.fx_plain_dispatch.specs.Settling.{IsSettledWhole}

-- a word refuses the line, which costs nothing
abbrev pub IsRefused : ℕ → Refusal → World → Course → ℕ → Type 0
IsRefused number word world now cost = (now ≡ after (answered number [] (Err word) world) (begun world)) × (cost ≡ 0)

-- the state is changed, and then the events that this starts are sent; or a word refuses the line
abbrev pub IsStarted : ℕ → Result Started Refusal → World → Course → ℕ → Type 0
IsStarted number (Ok starts) world now = AreSent starts.events (begun starts.world) now
IsStarted number (Err word) world now = IsRefused number word world now

-- a line that sends no events; what it makes anew is kept in some slot
abbrev pub IsCarried : Numbered → World → Course → ℕ → Type 0
IsCarried line world now cost =
    (slot : ℕ) × (now ≡ after (line_step slot line.number line.request world) (begun world))
    × (cost ≡ cost_of (taken slot line.request world))

abbrev pub IsInstructed : List Entry → Numbered → Bool → Instruction → World → Course → ℕ → Type 0
IsInstructed entries line true instruction world now =
    IsStarted line.number (started entries instruction world) world now
IsInstructed entries line false instruction world now = IsCarried line world now

-- what the line does itself, where the last picture has these entries
abbrev pub IsActed : List Entry → Numbered → Request → World → Course → ℕ → Type 0
IsActed entries line (asks instruction) world now =
    IsInstructed entries line (is_event_line instruction) instruction world now
IsActed entries line other world now = IsCarried line world now

pub record IsLine (entries : List Entry) (line : Numbered) (world : World) (now : Course) (cost : ℕ) : Type 0 where
  pub first : Course
  pub own : ℕ
  pub further : ℕ
  pub acted : IsActed entries line line.request world first own
  pub settled : IsSettledWhole line.number first now further
  pub sum : cost ≡ own + further
