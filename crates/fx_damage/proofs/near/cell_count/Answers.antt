use Rattle.std.proofs.Common.{arith}
use Rattle.std.specs.Prelude.{chars}
use Rattle.fx_picture.proofs.CellLemmas.{cells_of-few}
use Rattle.fx_damage.proofs.near.cell_count.Goals as goal

pub returns-clause-most : goal.returns-clause-most
returns-clause-most c = omega (arith, cells_of-few (chars c.as_str.result.now), c.as_str.ensures.short, c.cells.ensures)
