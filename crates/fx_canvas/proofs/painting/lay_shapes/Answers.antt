-- one shape more
use Rattle.std.proofs.Common.{arith}
use Rattle.fx_canvas.proofs.RepaintLemmas.{next_shape}
use Rattle.fx_canvas.proofs.painting.lay_shapes.Goals as goal

pub loop-shape-preserved : goal.loop-shape-preserved
loop-shape-preserved g c =
    next_shape c.args.area c.args.shapes.now c.loop-shape.shape-index c.shape-item.result c.args.rows.now c.loop-shape.rows c.lay_shape.new.rows
    c.args.painted.now c.loop-shape.painted c.lay_shape.new.painted (omega arith) c.shape-item.is c.loop-shape.invariant c.lay_shape.ensures
