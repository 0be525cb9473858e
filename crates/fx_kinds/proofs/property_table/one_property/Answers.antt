use Rattle.fx_kinds.proofs.PropertyLemmas.{same_place}
use Rattle.fx_kinds.proofs.property_table.one_property.Goals as goal

pub returns : goal.returns
returns c = same_place
