use Rattle.fx_look.specs.Written.{written}
use Rattle.fx_look.proofs.ColorLemmas.{opacity_least, opacity_found}
use Rattle.fx_look.proofs.colors.opacity_value.Goals as goal

pub returns-then-number : goal.returns-then-number
returns-then-number c = opacity_least (written c.args.number.now) c.if-places-gt9.false c.if-number.true

pub returns : goal.returns
returns c = opacity_found (written c.args.number.now) c.ten_power-below.result c.leading.result c.min-above.result c.rounded_share.result
    c.if-places-gt9.false c.if-number.false c.ten_power-below.ensures.value c.ten_power-below.ensures.bound c.leading.ensures c.min-above.ensures c.rounded_share.ensures
