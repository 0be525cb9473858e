use Rattle.std.proofs.Common.{refl, rules, w64, FitsSigned}
use Rattle.std.proofs.lemmas.Int.{to_z-of_z}
use Rattle.fx_picture.proofs.shapes.bounds.Goals as goal

pub returns-in-Letters : goal.returns-in-Letters
returns-in-Letters c =
    let x : FitsSigned w64 c.in-Letters.x = search rules in
    let y : FitsSigned w64 c.in-Letters.y = search rules in
    let s : FitsSigned w64 c.in-Letters.scale = search rules in
    let cells = rw (to_z-of_z w64 c.in-Letters.x x, to_z-of_z w64 c.in-Letters.y y, to_z-of_z w64 c.in-Letters.scale s) at c.cells_bounds.ensures in
    rw (c.in-Letters.is, c.meeting.ensures, cells, c.bounds_of-in-Letters.ensures) refl
