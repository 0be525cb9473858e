use Rattle.std.proofs.Common.{refl}
use Rattle.fx_look.specs.Styles.{styles}
use Rattle.fx_look.proofs.styles.style_table.Goals as goal

pub returns : goal.returns
unfolding styles
returns c = refl
