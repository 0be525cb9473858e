use Rattle.std.proofs.Common.{refl}
use Rattle.fx_look.specs.Styles.{styles}
use Rattle.fx_node_style.proofs.laws.rows_are_named.Goals as goal

pub returns : goal.returns
unfolding styles
returns c = refl
