use Rattle.fx_cells_laws.proofs.Counting.{wraps}
use Rattle.fx_cells_laws.proofs.laws.each_text_wraps.Goals as goal

pub returns : goal.returns
returns c = wraps
