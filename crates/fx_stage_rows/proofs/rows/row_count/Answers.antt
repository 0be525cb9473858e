use Rattle.std.proofs.Common.{arith}
use Rattle.fx_stage_rows.proofs.RowLemmas.{as_long, few_rows}
use Rattle.fx_stage_rows.proofs.rows.row_count.Goals as goal

pub returns-clause-count : goal.returns-clause-count
returns-clause-count c = as_long c.args.class c.properties.result.now c.properties.ensures

pub returns-clause-small : goal.returns-clause-small
returns-clause-small c =
    let long = as_long c.args.class c.properties.result.now c.properties.ensures in
    omega (arith, long, few_rows c.args.class)
