-- The slots of memory in which a line of a script keeps what it makes, and what the actions make that it sets off.
use Rattle.std.specs.Prelude.{◌≡◌, ℕ, Bool, true, false, List, [], ◌∷◌, ◌++◌, Result, Ok, Err}
use Rattle.fx_event_lines.specs.Started.{Started}
use Rattle.fx_event_lines.specs.Starting.{is_event_line, started}
use Rattle.fx_picture.specs.declared.entries.Entry.{Entry}
use Rattle.fx_plain_dispatch.specs.Taking.{IsActed, IsInstructed, IsLine, IsStarted}
use Rattle.fx_plain_steps.specs.Courses.{Course, begun}
use Rattle.fx_script_commands.specs.Requests.{Numbered, Request, asks, bad, binds, defines}
use Rattle.fx_script_lines.specs.declared.instructions.Instruction.{Instruction}
use Rattle.fx_stage_model.specs.World.{World}
use Rattle.fx_stage_types.specs.declared.refusals.Refusal.{Refusal}
use Rattle.fx_plain_laws.specs.Slots.{slots_of_events, slots_of_settling}

abbrev pub slots_of_started : (number : ℕ) (answer : Result Started Refusal) (world : World) (now : Course) (cost : ℕ)
    → IsStarted number answer world now cost → List ℕ
slots_of_started number (Ok starts) world now cost sent =
    slots_of_events starts.events (begun starts.world) now cost sent
slots_of_started number (Err word) world now cost refused = []

-- a line that sends no events has one slot
abbrev pub slots_of_instructed : (entries : List Entry) (line : Numbered) (sends : Bool) (instruction : Instruction)
    (world : World) (now : Course) (cost : ℕ) → IsInstructed entries line sends instruction world now cost → List ℕ
slots_of_instructed entries line true instruction world now cost begins =
    slots_of_started line.number (started entries instruction world) world now cost begins
slots_of_instructed entries line false instruction world now cost carried = carried.0 ∷ []

-- of what the line does itself
abbrev pub slots_of_acted : (entries : List Entry) (line : Numbered) (request : Request) (world : World) (now : Course)
    (cost : ℕ) → IsActed entries line request world now cost → List ℕ
slots_of_acted entries line (asks instruction) world now cost acted =
    slots_of_instructed entries line (is_event_line instruction) instruction world now cost acted
slots_of_acted entries line (binds path expression) world now cost carried = carried.0 ∷ []
slots_of_acted entries line (defines name lines) world now cost carried = carried.0 ∷ []
slots_of_acted entries line bad world now cost carried = carried.0 ∷ []

-- of the whole line
abbrev pub slots_of_line : (entries : List Entry) (line : Numbered) (world : World) (now : Course) (cost : ℕ)
    → IsLine entries line world now cost → List ℕ
slots_of_line entries line world now cost is =
    slots_of_acted entries line line.request world is.first is.own is.acted
    ++ slots_of_settling line.number 1000 0 is.first now is.further is.settled

-- two courses of a line that keep what they make in the same slots are one: one state behind it, and one cost
abbrev pub OneLine : Type 0
OneLine = (entries : List Entry) (line : Numbered) (world : World) (now end : Course) (cost more : ℕ)
    (one : IsLine entries line world now cost) (other : IsLine entries line world end more)
    → slots_of_line entries line world now cost one ≡ slots_of_line entries line world end more other
    → (now ≡ end) × (cost ≡ more)
