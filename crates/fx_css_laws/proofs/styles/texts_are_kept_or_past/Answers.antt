use Rattle.fx_css_laws.proofs.Readings.{sheet_kept_or_past, sheet_apart, sheet_place}
use Rattle.fx_css_laws.proofs.styles.texts_are_kept_or_past.Goals as goal

pub returns-clause-some : goal.returns-clause-some
returns-clause-some c = sheet_kept_or_past

pub returns-clause-apart : goal.returns-clause-apart
returns-clause-apart c = sheet_apart

pub returns-clause-one : goal.returns-clause-one
returns-clause-one c = sheet_place
