-- What a line of a script starts: one case an event line. It changes what the pointer, the button and the focus are on,
-- and then its events are sent, in order.
use Rattle.std.specs.Prelude.{◌≡◌, ◌⊎◌, Bool, true, false, List, Vec, Result, Ok, Err}
use Rattle.std.specs.Global.{Global}
use Rattle.fx_picture.specs.declared.entries.Entry.{Entry}
use Rattle.fx_script_lines.specs.declared.instructions.Instruction.{Instruction}
use Rattle.fx_script_lines.specs.declared.instructions.Instruction.TheVariants as line
use Rattle.fx_stage_model.specs.World.{World}
use Rattle.fx_stage_types.specs.declared.answers.StageError.{StageError}
use Rattle.fx_stage_types.specs.declared.answers.StageError.TheVariants.{Memory, Refused}
use Rattle.fx_stage_types.specs.declared.refusals.Refusal.{Refusal}
use Rattle.fx_event_lines.specs.Focusing.{focus_on, traversed}
use Rattle.fx_event_lines.specs.Hovering.{move_to}
use Rattle.fx_event_lines.specs.Keys.{key_pressed}
use Rattle.fx_event_lines.specs.Pressing.{press, release}
use Rattle.fx_event_lines.specs.Started.{Started, quietly}
use Rattle.fx_event_lines.specs.declared.events.Event.{Event}

unfoldable pub is_event_line : Instruction → Bool
is_event_line (line.Move x y) = true
is_event_line line.Press = true
is_event_line line.ReleaseButton = true
is_event_line (line.Key name) = true
is_event_line (line.Focus path) = true
is_event_line line.Tab = true
is_event_line line.Backtab = true
is_event_line other = false

-- what the line makes of the world, over the entries of the last picture
unfoldable pub started : List Entry → Instruction → World → Result Started Refusal
started entries (line.Move x y) world = move_to entries x y world
started entries line.Press world = press entries world
started entries line.ReleaseButton world = release entries world
started entries (line.Key name) world = Ok (key_pressed name world)
started entries (line.Focus path) world = focus_on entries path world
started entries line.Tab world = Ok (traversed entries false world)
started entries line.Backtab world = Ok (traversed entries true world)
started entries other world = Ok (quietly world)

-- what isn't refused is made and its events are told, unless memory is wanting; else nothing changes
abbrev pub IsStarted : Result Started Refusal → World → World → Result (Vec Event Global) StageError → Type 0
IsStarted (Ok started) before now (Ok events) = (now ≡ started.world) × (events.items ≡ started.events)
IsStarted (Ok started) before now (Err error) = (now ≡ before) × (error ≡ Memory)
IsStarted (Err word) before now (Ok events) = ⊥
IsStarted (Err word) before now (Err error) = (now ≡ before) × ((error ≡ Refused word) ⊎ (error ≡ Memory))
