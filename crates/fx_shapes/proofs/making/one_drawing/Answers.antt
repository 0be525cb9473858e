use Rattle.fx_shapes.proofs.DrawingLemmas.{one_drawing}
use Rattle.fx_shapes.proofs.making.one_drawing.Goals as goal

pub returns : goal.returns
returns c = one_drawing
