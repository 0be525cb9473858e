use Rattle.fx_cascade.specs.Sources.{row_name}
use Rattle.fx_cascade.proofs.NameLemmas.{row_named}
use Rattle.fx_cascade.proofs.tables.Winners.hear_code.Goals as goal

pub returns : goal.returns
returns c = λ name.
    let row = c.args.code.now.style.0 in
    c.hear_row.ensures (row_name row) name (row_named row c.requires)
