use Rattle.fx_css_laws.proofs.Readings.{style_kept_or_past, style_apart, style_place}
use Rattle.fx_css_laws.proofs.styles.styles_are_kept_or_past.Goals as goal

pub returns-clause-some : goal.returns-clause-some
returns-clause-some c = style_kept_or_past

pub returns-clause-apart : goal.returns-clause-apart
returns-clause-apart c = style_apart

pub returns-clause-one : goal.returns-clause-one
returns-clause-one c = style_place
