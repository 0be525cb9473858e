-- What lines ask for, without where their parts lie in memory.
use Rattle.std.specs.Prelude.{◌≡◌, ℕ, List, [], ◌∷◌, Option, None, Some, Result, Ok, Err}
use Rattle.fx_expr.specs.Tree.{Tree, tree}
use Rattle.fx_expr.specs.declared.tree.Parsed.{Parsed}
use Rattle.fx_script_lines.specs.declared.instructions.Instruction.{Instruction}
use Rattle.fx_script_lines.specs.declared.stops.Stop.{Stop}
use Rattle.fx_script_lines.specs.declared.stops.Stop.TheVariants.{Form, Memory}
use Rattle.fx_script_commands.specs.declared.commands.Command.{Command}
use Rattle.fx_script_commands.specs.declared.commands.Line.{Line}
use Rattle.fx_script_commands.specs.declared.commands.Command.TheOpen.{Command-F, Line-F, Plain, Bind, Action, Bad}
use Rattle.fx_script_commands.specs.declared.commands.Command.TheFolds.{fold-Command, fold-Line}

-- an expression over its different paths
pub record Expression : Type 0 where
  pub paths : List (List (List ℕ))
  pub meaning : Tree

-- a line of words alone, a binding, an action with its lines, or none of these
mutual
  pub data Request : Type 0 where
    asks : Instruction → Request
    binds : List (List ℕ) → Expression → Request
    defines : List ℕ → Requests → Request
    bad : Request

  pub data Requests : Type 0 where
    no_more : Requests
    more : ℕ → Request → Requests → Requests

-- a line by its number
pub record Numbered : Type 0 where
  pub number : ℕ
  pub request : Request

abbrev pub numbered : ℕ → Request → Numbered
numbered n asked = record { number = n; request = asked }

abbrev pub requests_of : List Numbered → Requests
requests_of [] = no_more
requests_of (l ∷ ls) = more l.number l.request (requests_of ls)

abbrev pub expression_view : Parsed → Expression
expression_view p = record { paths = p.paths; meaning = tree p.expr }

abbrev pub command_step : Command-F Request Numbered → Request
command_step (Plain instruction) = asks instruction
command_step (Bind name parsed) = binds name (expression_view parsed)
command_step (Action name lines) = defines name (requests_of lines.items)
command_step Bad = bad

abbrev pub line_step : Line-F Request Numbered → Numbered
line_step l = record { number = l.number; request = l.command }

-- what contracts see of a command, and of a line
abbrev pub command_view : Command → Request
command_view = fold-Command Request Numbered command_step line_step

abbrev pub line_view : Line → Numbered
line_view = fold-Line Request Numbered command_step line_step

-- what was found, seen by view, unless memory ran out
abbrev pub IsFound : {A B : Type 0} → (A → B) → Result A Stop → Option B → Type 0
IsFound view (Ok x) read = read ≡ Some (view x)
IsFound view (Err Form) read = read ≡ None
IsFound view (Err Memory) read = Unit {0}
