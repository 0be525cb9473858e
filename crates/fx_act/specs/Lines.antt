-- Which lines are event lines.
use Rattle.std.specs.Prelude.{◌≡◌, false, true, Option, Some, None}
use Rattle.fx_event_lines.specs.Starting.{is_event_line}
use Rattle.fx_script_commands.specs.Requests.{Numbered, Request, asks}
use Rattle.fx_script_lines.specs.declared.instructions.Instruction.{Instruction}

-- no event line
abbrev pub IsNoEvent : Request → Type 0
IsNoEvent (asks instruction) = is_event_line instruction ≡ false
IsNoEvent other = Unit {0}

-- what the line asks for is told, if it is an event line
abbrev pub IsEventLine : Numbered → Option Instruction → Type 0
IsEventLine line None = IsNoEvent line.request
IsEventLine line (Some instruction) = (line.request ≡ asks instruction) × (is_event_line instruction ≡ true)
