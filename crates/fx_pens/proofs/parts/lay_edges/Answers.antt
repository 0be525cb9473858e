use Rattle.std.proofs.Common.{◌≡◌, pos, to_z, of_z, arith, rules, FitsSigned, w64}
use Rattle.std.proofs.lemmas.Int.{ints, to_z-of_z}
use Rattle.fx_pens.specs.Dots.{row_dots}
use Rattle.fx_pens.proofs.DotLemmas.{laid-none}
use Rattle.fx_pens.proofs.EdgeLemmas.{edges_before, edges_laid}
use Rattle.fx_pens.proofs.LetterLemmas.{le_from}
use Rattle.fx_pens.proofs.parts.lay_edges.Goals as goal

pub returns-then-edges-pen : goal.returns-then-edges-pen
returns-then-edges-pen g c = λ start are.
    let pen = c.args.pen.now in
    let edges = c.args.edges in
    let near = c.requires.pen.near in
    let rises = c.requires.pen.rises in
    let end : FitsSigned w64 edges.end = search rules in
    let same : to_z w64 (of_z w64 edges.end) ≡ edges.end = to_z-of_z w64 edges.end end in
    let left : to_z w64 pen.left ≡ pos pen.left = omega (arith, ints, near, rises) in
    let past = le_from (to_z w64 (of_z w64 edges.end)) (to_z w64 pen.left) c.if-edges-pen.true in
    laid-none pen (row_dots pen start c.args.bits) c.args.row.now c.args.painted.now c.requires.pen.rises
    (λ x a b. edges_before pen start edges c.args.bits x are c.requires.rises
    (omega (arith, ints, same, left, past, a)) b)

pub returns : goal.returns
returns g c = λ start are.
    let f0 : FitsSigned w64 c.args.edges.first = search rules in
    let f1 : FitsSigned w64 c.args.edges.second = search rules in
    let f2 : FitsSigned w64 c.args.edges.third = search rules in
    let f3 : FitsSigned w64 c.args.edges.end = search rules in
    let l0 = simp to_z-of_z at c.lay_part.ensures in
    let l1 = simp to_z-of_z at c.lay_part-2.ensures in
    let l2 = simp to_z-of_z at c.lay_part-3.ensures in
    edges_laid c.args.pen.now start c.args.edges c.args.bits
    c.args.row.now c.lay_part.new.row c.lay_part-2.new.row c.lay_part-3.new.row
    c.args.painted.now c.lay_part.new.painted c.lay_part-2.new.painted c.lay_part-3.new.painted
    c.requires.pen.rises are l0 l1 l2
