-- each of the pixels has the colour
use Rattle.fx_pens.proofs.ShortLemmas.{three_writes}
use Rattle.fx_pens.proofs.spans.write_three.Goals as goal

pub returns : goal.returns
returns c = three_writes c.args.row.now c.args.color c.requires
