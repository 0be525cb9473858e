-- a cut column is the nearest one of the pen
use Rattle.std.proofs.Common.{◌≡◌, ◌∙◌, ◌+ℤ◌, ◌*◌, pos, ap, rules, FitsSigned, w64, to_z, of_z}
use Rattle.std.proofs.lemmas.Int.{to_z-of_z}
use Rattle.fx_pens.proofs.StampLemmas.{clipped, column_is}
use Rattle.fx_pens.proofs.stamps.column.Goals as goal

pub returns : goal.returns
returns c =
    let pen = c.args.pen.now in
    let fits : FitsSigned w64 c.further.result = search rules in
    let same : to_z w64 (of_z w64 c.further.result) ≡ c.further.result = to_z-of_z w64 c.further.result fits in
    let start : to_z w64 (of_z w64 c.args.start) ≡ c.args.start = to_z-of_z w64 c.args.start c.ranges.start in
    let at = to_z w64 (of_z w64 c.further.result) in
    let is : at ≡ c.args.start +ℤ pos (c.args.count * pen.scale) = same ∙ (c.further.ensures.value ∙ ap (λ z. z +ℤ pos (c.args.count * pen.scale)) start) in
    column_is pen.left pen.right c.cut.result at c.requires.rises c.cut.ensures.low c.cut.ensures.among c.cut.ensures.high
    ∙ ap (clipped pen.left pen.right) is
