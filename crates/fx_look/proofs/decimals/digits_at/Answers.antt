use Rattle.fx_look.proofs.DecimalLemmas.{digits_found}
use Rattle.fx_look.proofs.decimals.digits_at.Goals as goal

pub returns : goal.returns
returns c = digits_found _ _ _ _ c.digit_count-count.ensures.count c.if-count-eq0.false c.split_at.ensures.front c.split_at.ensures.back
