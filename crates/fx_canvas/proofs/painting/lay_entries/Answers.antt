-- the shapes of one entry more
use Rattle.std.proofs.Common.{List, subst, arith}
use Rattle.fx_canvas.proofs.RepaintLemmas.{IsLaidOver, next_entry}
use Rattle.fx_picture.specs.declared.shapes.Shape.{Shape}
use Rattle.fx_canvas.proofs.painting.lay_entries.Goals as goal

pub loop-entry-preserved : goal.loop-entry-preserved
loop-entry-preserved g c =
    next_entry c.args.area c.args.entries.now c.loop-entry.entry-index c.entry-item.result c.args.rows.now c.loop-entry.rows c.lay_shapes.new.rows
    c.args.painted.now c.loop-entry.painted c.lay_shapes.new.painted (omega arith) c.entry-item.is c.loop-entry.invariant
    (subst (λ (l : List Shape). IsLaidOver c.args.area l c.loop-entry.rows c.lay_shapes.new.rows c.loop-entry.painted c.lay_shapes.new.painted)
    c.as_slice.ensures c.lay_shapes.ensures)
