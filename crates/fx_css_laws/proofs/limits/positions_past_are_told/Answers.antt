use Rattle.fx_css_laws.proofs.Places.{style_told, sheet_told}
use Rattle.fx_css_laws.proofs.limits.positions_past_are_told.Goals as goal

pub returns-clause-style : goal.returns-clause-style
returns-clause-style c = style_told

pub returns-clause-sheet : goal.returns-clause-sheet
returns-clause-sheet c = sheet_told
