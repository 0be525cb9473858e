use Rattle.fx_css.proofs.OneReading.{one_style}
use Rattle.fx_css_laws.proofs.styles.styles_are_read_in_one_way.Goals as goal

pub returns : goal.returns
returns c = one_style
