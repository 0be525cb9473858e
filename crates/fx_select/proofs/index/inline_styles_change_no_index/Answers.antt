use Rattle.fx_select.proofs.BareLemmas.{listing-stays}
use Rattle.fx_select.proofs.index.inline_styles_change_no_index.Goals as goal

pub returns : goal.returns
returns c = listing-stays
