-- Faults of files, and the line that tells one.
use Rattle.std.specs.Prelude.{ℕ, List, [], ◌∷◌, ◌++◌, codes}
use Rattle.std.specs.Fmt.{decimal}
use Rattle.fx_text.specs.Characters.{line_feed, space}
use Rattle.fx_base.specs.declared.positions.Position.{Position}
use Rattle.fx_scene_flaws.specs.declared.flaws.FaultKind.{FaultKind}
use Rattle.fx_scene_flaws.specs.declared.flaws.FaultKind.TheVariants.{Missing, TooLarge, NotUtf8, Markup, Flawed}
use Rattle.fx_scene_flaws.specs.declared.flaws.Flaw.{Flaw}
use Rattle.fx_scene_flaws.specs.declared.flaws.Flaw.TheVariants as flaw

-- why a file is refused, and where: a position in it, or line 0 and column 0 for the file as a whole
pub record Fault : Type 0 where
  pub kind : FaultKind
  pub file : List ℕ
  pub position : Position

abbrev pub nowhere : Position
nowhere = record { line = 0; column = 0 }

abbrev pub fault_at : FaultKind → List ℕ → Position → Fault
fault_at kind file position = record { kind = kind; file = file; position = position }

-- the whole file
abbrev pub whole_fault : FaultKind → List ℕ → Fault
whole_fault kind file = fault_at kind file nowhere

unfoldable pub flaw_word : Flaw → List ℕ
flaw_word flaw.Class = codes "class"
flaw_word flaw.Import = codes "import"
flaw_word flaw.Property = codes "property"
flaw_word flaw.Value = codes "value"
flaw_word flaw.Duplicate = codes "duplicate"
flaw_word flaw.Name = codes "name"
flaw_word flaw.IncludeCycle = codes "includecycle"
flaw_word flaw.Expression = codes "expression"
flaw_word flaw.Kinds = codes "type"
flaw_word flaw.Cycle = codes "cycle"
flaw_word flaw.Child = codes "child"
flaw_word flaw.ReadOnly = codes "readonly"
flaw_word flaw.Limit = codes "limit"

unfoldable pub kind_word : FaultKind → List ℕ
kind_word Missing = codes "missing"
kind_word TooLarge = codes "toolarge"
kind_word NotUtf8 = codes "notutf8"
kind_word Markup = codes "markup"
kind_word (Flawed flaw) = flaw_word flaw

-- `fault KIND FILE LINE COLUMN`
unfoldable pub fault_line : Fault → List ℕ
fault_line f =
    codes "fault " ++ (kind_word f.kind ++ (space ∷ (f.file
    ++ (space ∷ (decimal f.position.line ++ (space ∷ (decimal f.position.column ++ (line_feed ∷ []))))))))
