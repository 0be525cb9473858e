use Rattle.fx_look.specs.ColorNames.{names}
use Rattle.fx_look.proofs.color_names.named.Goals as goal

pub returns : goal.returns
unfolding names
returns c = c.entry.ensures
