-- Lines of a script that print no line feed of their own, and worlds in which no path that is printed holds one.
use Rattle.std.specs.Prelude.{◌≡◌, ℕ, false, List, All}
use Rattle.fx_delta.specs.Stream.{is_line_feed}
use Rattle.fx_plain_frames.specs.Games.{Game}
use Rattle.fx_script_commands.specs.Requests.{Numbered, Request, Requests, asks, bad, binds, defines, more, no_more}
use Rattle.fx_script_lines.specs.declared.instructions.Instruction.{Instruction}
use Rattle.fx_script_lines.specs.declared.instructions.Instruction.TheVariants as line
use Rattle.fx_stage_model.specs.World.{World}
use Rattle.fx_delta_runs.specs.Frames.{AreDrawn, Telling}
use Rattle.fx_delta_runs.specs.Runs.{IsRun}

-- no line feed stands in it
abbrev pub IsOneLine : List ℕ → Type 0
IsOneLine text = All (λ (c : ℕ). is_line_feed c ≡ false) text

-- none stands in the names of a path
abbrev pub IsOnePath : List (List ℕ) → Type 0
IsOnePath path = All IsOneLine path

-- nor in these names of files
abbrev pub AreNames : List (List ℕ) → Type 0
AreNames names = All IsOneLine names

-- none stands in the text that the line says, or in the path by which it asks for a value or for a listener
abbrev pub IsTameInstruction : Instruction → Type 0
IsTameInstruction (line.Get path) = IsOnePath path
IsTameInstruction (line.Listen kind path label) = IsOnePath path
IsTameInstruction (line.Watch kind path action label) = IsOnePath path
IsTameInstruction (line.Say text) = IsOneLine text
IsTameInstruction other = Unit {0}

abbrev mutual
  -- and none in those of the lines of an action that it defines
  pub IsTame : Request → Type 0
  IsTame (asks instruction) = IsTameInstruction instruction
  IsTame (binds path expression) = Unit {0}
  IsTame (defines name lines) = AreTame lines
  IsTame bad = Unit {0}

  pub AreTame : Requests → Type 0
  AreTame no_more = Unit {0}
  AreTame (more number request lines) = IsTame request × AreTame lines

abbrev pub IsTameLine : Numbered → Type 0
IsTameLine line = IsTame line.request

abbrev pub AreTameLines : List Numbered → Type 0
AreTameLines lines = All IsTameLine lines

-- none stands in a path by which a living listener was asked for, or in what the lines of actions print
pub record IsTameWorld (world : World) : Type 0 where
  pub written : All (λ (entry : ℕ × List (List ℕ)). IsOnePath entry.1) world.names.written
  pub actions : All (λ (entry : List ℕ × List Numbered). AreTameLines entry.1) world.names.actions

-- each frame that these lines may draw of this game can be drawn
abbrev pub AreDrawable : Game → List Numbered → Type 0
AreDrawable first lines =
    (tellings : List Telling) → IsRun first lines tellings → AreDrawn tellings
