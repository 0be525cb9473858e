-- by what reading finds
use Rattle.fx_expr.proofs.ReadingLemmas.{one_tree}
use Rattle.fx_expr.proofs.reading.one_reading.Goals as goal

pub returns : goal.returns
returns c = one_tree
