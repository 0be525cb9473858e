use Rattle.fx_grid.proofs.GridLemmas.{across_first}
use Rattle.fx_grid.proofs.grid.across_first.Goals as goal

pub returns : goal.returns
returns c = across_first
