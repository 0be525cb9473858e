use Rattle.fx_css_laws.proofs.Ninths.{ninth_told}
use Rattle.fx_css_laws.proofs.limits.ninth_layers_are_told.Goals as goal

pub returns : goal.returns
returns c = ninth_told
