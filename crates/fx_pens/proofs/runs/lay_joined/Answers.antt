use Rattle.std.proofs.Common.{pos}
use Rattle.fx_pens.specs.Dots.{is_in, row_dots}
use Rattle.fx_pens.proofs.DotLemmas.{laid-same}
use Rattle.fx_pens.proofs.RunLemmas.{joined_is}
use Rattle.fx_pens.proofs.runs.lay_joined.Goals as goal

pub returns : goal.returns
returns g c =
    let pen = c.args.pen.now in
    let from = c.choose-from.result in
    let to = c.choose-to.result in
    laid-same pen (is_in from to) (row_dots pen (pos c.args.start) c.args.bits)
    c.args.row.now c.lay_span.new.row c.args.painted.now c.lay_span.new.painted
    (λ x a b. joined_is pen c.args.start from to c.args.bits x c.requires.middle c.choose-from.ensures c.choose-to.ensures)
    c.requires.pen.rises c.lay_span.ensures
