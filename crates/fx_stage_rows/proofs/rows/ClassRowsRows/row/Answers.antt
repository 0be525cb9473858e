use Rattle.std.proofs.Common.{◌<◌, length, arith}
use Rattle.fx_stage_rows.proofs.RowLemmas.{as_long, count_declared, row_here}
use Rattle.fx_stage_rows.proofs.rows.ClassRowsRows.row.Goals as goal

pub returns : goal.returns
returns c =
    let class = c.args.self.now.class in
    let list = c.properties.result.now in
    let within : c.args.place < length list =
    omega (arith, c.requires, count_declared class, as_long class list c.properties.ensures) in
    row_here class list c.args.place _ c.in-Ok.value c.properties.ensures within c.in-Ok.ensures
