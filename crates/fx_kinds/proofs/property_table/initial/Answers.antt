use Rattle.fx_kinds.proofs.PropertyLemmas.{initial_found}
use Rattle.fx_kinds.proofs.property_table.initial.Goals as goal

pub returns : goal.returns
returns c = initial_found c.args.class c.table.result.now c.args.place _ c.initial_value.result c.table.ensures c.requires c.initial_value.ensures
