-- one row more is filled
use Rattle.std.proofs.Common.{◌<◌, length, sym, subst, arith}
use Rattle.fx_canvas.specs.Surfaces.{Line, no_line}
use Rattle.fx_canvas.proofs.DottedLemmas.{no_rows, pen_in, row_more, rows-same}
use Rattle.fx_canvas.proofs.SurfaceLemmas.{any_line}
use Rattle.fx_pens.specs.Dots.{IsLaid, IsPen, is_in}
use Rattle.fx_canvas.proofs.opaque.fill_run.Goals as goal

pub loop-y-init : goal.loop-y-init
loop-y-init g c = no_rows c.args.pen.now c.args.top c.args.bottom (λ x y. is_in c.args.run.left c.args.run.right x) c.args.rows.now c.args.painted.now

pub fill-requires-clause-pen : goal.fill-requires-clause-pen
fill-requires-clause-pen g c =
    let pen = c.args.pen.now in
    let rows = c.loop-y.rows in
    let y = c.loop-y.y in
    let has = rows-same pen c.args.top c.args.bottom c.args.rows.now rows c.loop-y.invariant.sizes c.requires.rows in
    let down = has.down in
    let test = c.loop-y-test.true in
    let within : y < length rows = omega arith in
    subst (λ (l : Line). IsPen pen l.pixels) (sym (any_line rows y c.index-rows-y.result no_line within))
    (pen_in pen c.args.top c.args.bottom y pen.below rows has test)

pub loop-y-preserved : goal.loop-y-preserved
loop-y-preserved g c =
    let pen = c.args.pen.now in
    let run = c.args.run in
    let rows = c.loop-y.rows in
    let y = c.loop-y.y in
    let down = c.requires.rows.down in
    let same = c.loop-y.invariant.sizes.down in
    let test = c.loop-y-test.true in
    let within : y < length rows = omega arith in
    row_more pen c.args.top c.args.bottom y (λ x k. is_in run.left run.right x) c.args.rows.now rows c.fill.new.self
    c.args.painted.now c.loop-y.painted c.fill.new.painted (omega arith) test within c.requires.rows.bytes c.loop-y.invariant
    (subst (λ (l : Line). IsLaid pen (is_in run.left run.right) l.pixels c.fill.new.self.pixels c.loop-y.painted c.fill.new.painted)
    (any_line rows y c.index-rows-y.result no_line within) c.fill.ensures)
