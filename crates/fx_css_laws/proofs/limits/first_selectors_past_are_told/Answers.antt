use Rattle.fx_css_laws.proofs.Firsts.{first_told}
use Rattle.fx_css_laws.proofs.limits.first_selectors_past_are_told.Goals as goal

pub returns : goal.returns
returns c = first_told
