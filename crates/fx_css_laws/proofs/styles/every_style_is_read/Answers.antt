use Rattle.fx_css_laws.proofs.Readings.{some_style}
use Rattle.fx_css_laws.proofs.styles.every_style_is_read.Goals as goal

pub returns : goal.returns
returns c = some_style
