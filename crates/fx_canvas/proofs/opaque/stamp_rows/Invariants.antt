-- the lines so far are stamped
use Rattle.std.proofs.Common.{◌≡◌, ◌+◌, ◌-◌, ◌/◌}
use Rattle.fx_canvas.specs.Painting.{AreDotted, line_top}
use Rattle.fx_pens.specs.Dots.{stamp_dots}
use Rattle.fx_canvas.proofs.opaque.stamp_rows.Given as goal

abbrev pub invariant-loop-line : goal.invariant-loop-line
invariant-loop-line g l = (l.top ≡ line_top l.pen l.fn.block.top l.fn.block.bottom l.line)
    × AreDotted l.pen l.fn.block.top l.fn.block.bottom l.top (λ x y. stamp_dots l.stamp ((l.pen.below + (y - l.fn.block.top)) / l.pen.scale) x)
    l.fn.rows l.rows l.fn.painted l.painted
