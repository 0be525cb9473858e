use Rattle.fx_look.proofs.StyleLemmas.{style_found}
use Rattle.fx_look.proofs.styles.each_named.Goals as goal

pub returns : goal.returns
returns c = style_found
