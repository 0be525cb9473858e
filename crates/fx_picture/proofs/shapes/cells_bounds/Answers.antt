use Rattle.std.proofs.Common.{rules, w64, FitsSigned}
use Rattle.std.specs.Int.{w128}
use Rattle.std.proofs.lemmas.Int.{to_z-of_z}
use Rattle.fx_picture.specs.Shapes.{cells_bounds}
use Rattle.fx_picture.proofs.shapes.cells_bounds.Goals as goal

pub returns : goal.returns
unfolding cells_bounds
returns c =
    let x : FitsSigned w64 c.args.x = c.ranges.x in
    let y : FitsSigned w64 c.args.y = c.ranges.y in
    let scale : FitsSigned w64 c.args.scale = c.ranges.scale in
    let left : FitsSigned w128 c.from.result = search rules in
    let top : FitsSigned w128 c.from-2.result = search rules in
    let right : FitsSigned w128 c.behind.result = search rules in
    let bottom : FitsSigned w128 c.behind-2.result = search rules in
    rw (to_z-of_z w128 c.from.result left, to_z-of_z w128 c.from-2.result top, to_z-of_z w128 c.behind.result right, to_z-of_z w128 c.behind-2.result bottom)
    (rw (c.from.ensures, c.from-2.ensures, c.behind.ensures, c.behind-2.ensures, c.whole-scale.ensures.value, c.cell_count.ensures.value) (simp to_z-of_z))
