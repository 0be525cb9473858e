use Rattle.std.proofs.Common.{◌&&◌, ◌∙◌, ap, sym, FitsSigned, w64}
use Rattle.std.proofs.lemmas.Int.{to_z-of_z}
use Rattle.fx_picture.specs.Bounds.{in_range}
use Rattle.fx_pens.specs.Dots.{is_in}
use Rattle.fx_pens.proofs.DotLemmas.{laid-none, laid-same}
use Rattle.fx_pens.proofs.CutLemmas.{bit_span}
use Rattle.fx_pens.proofs.parts.lay_part.Goals as goal

pub returns-then-set : goal.returns-then-set
returns-then-set g c =
    let pen = c.args.pen.now in
    let start : FitsSigned w64 c.args.start = c.ranges.start in
    let end : FitsSigned w64 c.args.end = c.ranges.end in
    let low = simp to_z-of_z at c.cut-from.ensures.low in
    let among = simp to_z-of_z at c.cut-from.ensures.among in
    let high = simp to_z-of_z at c.cut-from.ensures.high in
    let low_end = simp to_z-of_z at c.cut-to.ensures.low in
    let among_end = simp to_z-of_z at c.cut-to.ensures.among in
    let high_end = simp to_z-of_z at c.cut-to.ensures.high in
    laid-same pen (is_in c.cut-from.result c.cut-to.result) (λ x. c.args.set && in_range c.args.start c.args.end x)
    c.args.row.now c.lay_span.new.row c.args.painted.now c.lay_span.new.painted
    (λ x a b. bit_span pen.left pen.right c.cut-from.result c.cut-to.result x c.args.start c.args.end a b low among high low_end among_end high_end
    ∙ ap (λ t. t && in_range c.args.start c.args.end x) (sym c.if-set.true))
    c.requires.pen.rises c.lay_span.ensures

pub returns-else-set : goal.returns-else-set
returns-else-set g c =
    laid-none c.args.pen.now (λ x. c.args.set && in_range c.args.start c.args.end x) c.args.row.now c.args.painted.now c.requires.pen.rises
    (λ x a b. ap (λ t. t && in_range c.args.start c.args.end x) c.if-set.false)
