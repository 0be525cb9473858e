-- One line more.
use Rattle.std.specs.Prelude.{◌≡◌, List, [], ◌∷◌, ◌++◌, map}
use Rattle.fx_script_commands.specs.Requests.{Numbered, line_view}
use Rattle.fx_script_commands.specs.declared.commands.Line.{Line}

-- this line stands behind the others
abbrev pub Adds : List Line → Numbered → List Line → Type 0
Adds before line after = map line_view after ≡ map line_view before ++ (line ∷ [])
