-- one row more is laid over
use Rattle.std.proofs.Common.{◌<◌, get_or, length, subst, arith}
use Rattle.fx_canvas.specs.Painting.{HasBytes}
use Rattle.fx_canvas.specs.Surfaces.{Line, no_line}
use Rattle.fx_canvas.proofs.BlockLemmas.{block_step, columns_of}
use Rattle.fx_canvas.proofs.SurfaceLemmas.{any_line}
use Rattle.fx_pens.specs.Dots.{IsLaid}
use Rattle.fx_pens.specs.Shapes.{plain_pen}
use Rattle.fx_picture.specs.Shapes.{color_of, holds}
use Rattle.fx_picture.specs.declared.shapes.Shape.{Shape}
use Rattle.fx_canvas.proofs.painting.lay_rows.Goals as goal

pub loop-y-preserved : goal.loop-y-preserved
loop-y-preserved g c =
    let shape = c.args.shape.now in
    let block = c.args.block in
    let rows = c.loop-y.rows in
    let y = c.loop-y.y in
    let falls = c.requires.falls in
    let down = c.requires.down in
    let same = c.loop-y.invariant.sizes.down in
    let test = c.loop-y-test.true in
    let within : y < length rows = omega arith in
    let small : HasBytes (color_of shape) = subst HasBytes c.color_of.ensures c.channel_laws.ensures in
    let Laid : Line → Shape → Type 0 = λ l s. IsLaid (plain_pen (columns_of block) (color_of s)) (λ x. holds s x y) l.pixels c.lay.new.self.pixels c.loop-y.painted c.lay.new.painted in
    let line = get_or rows y c.index-rows-y.result in
    block_step block shape y c.args.rows.now rows c.lay.new.self c.args.painted.now c.loop-y.painted c.lay.new.painted
    (omega arith) (omega arith) within small c.loop-y.invariant
    (subst (λ l. Laid l shape) (any_line rows y c.index-rows-y.result no_line within) (subst (Laid line) c.new-brush.ensures c.lay.ensures))
