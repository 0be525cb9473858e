use Rattle.fx_kinds.proofs.PropertyLemmas.{style_kept}
use Rattle.fx_kinds.proofs.property_table.each_styled.Goals as goal

pub returns : goal.returns
returns c = style_kept
