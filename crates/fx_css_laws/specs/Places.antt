-- What stands at the position that is told of a text past its limits.
-- Cited by src/limits.rt.
use Rattle.std.specs.Prelude.{◌≡◌, ℕ, List}
use Rattle.fx_base.specs.declared.positions.Position.{Position}
use Rattle.fx_base.specs.Positions.{start}
use Rattle.fx_css_marks.specs.declared.marks.Mark.{Mark}
use Rattle.fx_css_marks.specs.Marks.{Marked, position_of}
use Rattle.fx_css.specs.Numbered.{numbered_marks}
use Rattle.fx_css.specs.Pieces.{kept_in}
use Rattle.fx_css.specs.Rules.{Reading, Reads}
use Rattle.fx_css_laws.specs.Counts.{IsPastDeclaration, IsPastRule}

-- of a `style`, the mark of the first declaration past a limit, or of a ninth layer
pub record IsStylePlace (text : List ℕ) (position : Position) : Type 0 where
  pub marks : List Mark
  pub marked : Marked start text marks
  pub number : ℕ
  pub told : IsPastDeclaration 256 (kept_in (numbered_marks marks)) number
  pub place : position ≡ position_of marks number

-- of a sheet, the mark of the first rule past a limit, or of the first part of a rule
pub record IsSheetPlace (text : List ℕ) (position : Position) : Type 0 where
  pub marks : List Mark
  pub marked : Marked start text marks
  pub readings : List Reading
  pub dropped : List ℕ
  pub reads : Reads (numbered_marks marks) readings dropped
  pub number : ℕ
  pub told : IsPastRule 4096 readings number
  pub place : position ≡ position_of marks number
