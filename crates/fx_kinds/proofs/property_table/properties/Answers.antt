use Rattle.fx_kinds.proofs.PropertyLemmas.{list_is}
use Rattle.fx_kinds.proofs.property_table.properties.Goals as goal

pub returns : goal.returns
returns c = list_is c.args.class c.table.result.now c.table.ensures
