-- What a line of a script makes of the world: one case a line. Event lines, `pulse` and lines on timelines aren't the
-- world's own; they make nothing here.
use Rattle.std.specs.Prelude.{ℕ, Bool, nat_eq, nat_le, ◌&&◌, List, [], ◌∷◌, ◌++◌, codes, Option, Some, None, Result, Ok, Err, is_some, if◌then◌else◌}
use Rattle.std.specs.List.{starts_with}
use Rattle.std.specs.Map.{lookup}
use Rattle.std.specs.Str.{bytes_eq}
use Rattle.fx_events.specs.declared.kinds.Phase.TheVariants as phase
use Rattle.fx_script_commands.specs.Requests.{Numbered, Request, Requests, asks, bad, binds, defines, no_more, more}
use Rattle.fx_script_lines.specs.declared.instructions.Instruction.{Instruction}
use Rattle.fx_script_lines.specs.declared.instructions.Instruction.TheVariants as line
use Rattle.fx_text.specs.Digits.{number_of_digits}
use Rattle.fx_stage_types.specs.declared.refusals.Refusal.{Refusal}
use Rattle.fx_stage_types.specs.declared.refusals.Refusal.TheVariants as word
use Rattle.fx_stage_model.specs.Answers.{Taken, and_then, or_word, silently, unless}
use Rattle.fx_stage_model.specs.Properties as property
use Rattle.fx_stage_model.specs.Listening as listening
use Rattle.fx_stage_model.specs.Nodes as nodes
use Rattle.fx_stage_model.specs.Dressing as dressing
use Rattle.fx_stage_model.specs.World.{World, with_names}

-- the lines of an action
abbrev pub lines_of : Requests → List Numbered
lines_of no_more = []
lines_of (more number request rest) = record { number = number; request = request } ∷ lines_of rest

abbrev pub with_action : List ℕ → Requests → World → World
with_action name lines world =
    with_names (record world.names { actions = world.names.actions ++ (name, lines_of lines) ∷ [] }) world

unfoldable pub define : List ℕ → Requests → World → Result Taken Refusal
define name lines world =
    unless (is_some (lookup (bytes_eq name) world.names.actions)) word.Exists (silently (with_action name lines world))

-- a side of a window, in pixels
abbrev pub is_side : ℕ → Bool
is_side n = nat_le 1 n && nat_le n 2048

abbrev pub side_of : List ℕ → Option ℕ
side_of word =
    if starts_with nat_eq word (codes "-")
    then None
    else (if is_side (number_of_digits word) then Some (number_of_digits word) else None)

unfoldable pub resize : List ℕ → List ℕ → World → Result Taken Refusal
resize width height world =
    and_then (or_word word.Value (side_of width)) (λ (w : ℕ).
    and_then (or_word word.Value (side_of height)) (λ (h : ℕ).
    silently (record world { window = Some (w, h) })))

unfoldable pub instructed : ℕ → Instruction → World → Result Taken Refusal
instructed slot (line.Prop name kind text) = property.declare name kind text
instructed slot (line.Set path text) = property.set path text
instructed slot (line.Get path) = property.get path
instructed slot (line.Unbind path) = property.unbind path
instructed slot (line.Pair one other) = property.pair one other
instructed slot (line.Unpair one other) = property.unpair one other
instructed slot (line.Owner label) = listening.own slot label
instructed slot (line.Release label) = listening.release label
instructed slot (line.Listen kind path label) = listening.listen kind path None label
instructed slot (line.Unlisten kind path label) = listening.unlisten kind path None label
instructed slot (line.Watch kind path action label) = listening.listen kind path (Some action) label
instructed slot (line.Unwatch kind path action label) = listening.unlisten kind path (Some action) label
instructed slot (line.New name path) = nodes.new slot name path
instructed slot (line.Attach parent child place) = nodes.attach parent child place
instructed slot (line.Detach path) = nodes.detach path
instructed slot (line.Drop path) = nodes.drop path
instructed slot (line.Class path name) = dressing.class path name
instructed slot (line.Unclass path name) = dressing.unclass path name
instructed slot (line.Style path text) = dressing.style path text
instructed slot (line.Pseudo path name state) = dressing.pseudo path name state
instructed slot (line.Constrain path name text) = dressing.constrain path name text
instructed slot (line.Handle path name action) = dressing.handle phase.Handler path name action
instructed slot (line.Filter path name action) = dressing.handle phase.Filter path name action
instructed slot (line.Resize width height) = resize width height
instructed slot other = silently

-- What a line makes. What it makes anew, a node or an owner, is kept in this slot.
unfoldable pub taken : ℕ → Request → World → Result Taken Refusal
taken slot (asks instruction) world = instructed slot instruction world
taken slot (binds path expression) world = property.bind path expression world
taken slot (defines name lines) world = define name lines world
taken slot bad world = Err word.Syntax
