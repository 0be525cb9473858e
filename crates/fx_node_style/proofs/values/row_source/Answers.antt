use Rattle.std.proofs.Common.{◌∙◌}
use Rattle.fx_cascade.specs.Sources.{row_name}
use Rattle.fx_cascade.proofs.NameLemmas.{row_named}
use Rattle.fx_node_style.proofs.values.row_source.Goals as goal

pub returns : goal.returns
returns c = c.row.ensures (row_name c.args.row) (row_named c.args.row c.requires.there)
    ∙ c.requires.wins (row_name c.args.row)
