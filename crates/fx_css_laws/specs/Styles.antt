-- Texts within their limits, and texts past one.
-- Cited by src/styles.rt.
use Rattle.std.specs.Prelude.{ℕ, List, []}
use Rattle.fx_base.specs.declared.positions.Place.{Place}
use Rattle.fx_base.specs.declared.positions.Position.{Position}
use Rattle.fx_css_types.specs.declared.sheets.Rule.{Rule}
use Rattle.fx_css.specs.Sheets.{IsFirst, IsSheetText, IsStyleText}

-- the text of a sheet of this file, of which nothing is past a limit
abbrev pub IsSheet : ℕ → List ℕ → Type 0
IsSheet file text = (rules : List Rule) × (warnings : List Place) × IsSheetText file text rules warnings []

-- the same of a `style`
abbrev pub IsStyle : List ℕ → Type 0
IsStyle text = (rules : List Rule) × (warnings : List Place) × IsStyleText text rules warnings []

-- something of a `style` is past a limit, first what begins at this position
abbrev pub IsPastStyle : List ℕ → Position → Type 0
IsPastStyle text position = (rules : List Rule) × (warnings : List Place) × (past : List Place)
    × IsStyleText text rules warnings past × IsFirst past position
