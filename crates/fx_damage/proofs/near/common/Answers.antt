use Rattle.std.proofs.Common.{rules, FitsSigned, w64}
use Rattle.std.proofs.lemmas.Int.{to_z-of_z}
use Rattle.fx_damage.proofs.near.common.Goals as goal

pub returns : goal.returns
returns c =
    let a : FitsSigned w64 c.greater.result = search rules in
    let b : FitsSigned w64 c.greater-2.result = search rules in
    let d : FitsSigned w64 c.lesser.result = search rules in
    let e : FitsSigned w64 c.lesser-2.result = search rules in
    let left : FitsSigned w64 c.args.one.min_x = search rules in
    let top : FitsSigned w64 c.args.one.min_y = search rules in
    let right : FitsSigned w64 c.args.one.max_x = search rules in
    let bottom : FitsSigned w64 c.args.one.max_y = search rules in
    let other_left : FitsSigned w64 c.args.other.min_x = search rules in
    let other_top : FitsSigned w64 c.args.other.min_y = search rules in
    let other_right : FitsSigned w64 c.args.other.max_x = search rules in
    let other_bottom : FitsSigned w64 c.args.other.max_y = search rules in
    rw (to_z-of_z w64 c.greater.result a, to_z-of_z w64 c.greater-2.result b, to_z-of_z w64 c.lesser.result d, to_z-of_z w64 c.lesser-2.result e)
    (rw (c.greater.ensures, c.greater-2.ensures, c.lesser.ensures, c.lesser-2.ensures) (simp to_z-of_z))
