use Rattle.fx_look.specs.Written.{written}
use Rattle.fx_look.proofs.ColorLemmas.{channel_found}
use Rattle.fx_look.proofs.colors.channel_value.Goals as goal

pub returns : goal.returns
returns c = channel_found (written c.args.number.now) c.leading.result c.min.result c.if-number-gt0.false c.if-number.false c.leading.ensures c.min.ensures
