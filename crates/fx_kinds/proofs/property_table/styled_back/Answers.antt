use Rattle.fx_kinds.proofs.PropertyLemmas.{named_back}
use Rattle.fx_kinds.proofs.property_table.styled_back.Goals as goal

pub returns : goal.returns
returns c = named_back
