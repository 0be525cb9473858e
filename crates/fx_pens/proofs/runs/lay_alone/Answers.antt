use Rattle.std.proofs.Common.{◌+◌, ◌&&◌, ◌∙◌, pos, ap, sym}
use Rattle.fx_pens.specs.Dots.{bit_dots, is_in}
use Rattle.fx_pens.proofs.DotLemmas.{laid-none, laid-same}
use Rattle.fx_pens.proofs.RunLemmas.{alone_near}
use Rattle.fx_pens.proofs.runs.lay_alone.Goals as goal

pub returns-then-set : goal.returns-then-set
returns-then-set g c =
    let pen = c.args.pen.now in
    let s = c.args.start in
    laid-same pen (is_in s (s + pen.scale)) (λ x. c.args.set && bit_dots pen (pos s) x)
    c.args.row.now c.lay_span.new.row c.args.painted.now c.lay_span.new.painted
    (λ x a b. sym (alone_near pen s x) ∙ ap (λ t. t && bit_dots pen (pos s) x) (sym c.if-set.true))
    c.requires.pen.rises c.lay_span.ensures

pub returns-else-set : goal.returns-else-set
returns-else-set g c =
    laid-none c.args.pen.now (λ x. c.args.set && bit_dots c.args.pen.now (pos c.args.start) x) c.args.row.now c.args.painted.now c.requires.pen.rises
    (λ x a b. ap (λ t. t && bit_dots c.args.pen.now (pos c.args.start) x) c.if-set.false)
