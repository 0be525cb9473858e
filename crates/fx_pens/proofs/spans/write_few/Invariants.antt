-- The front has the colour, and the rest is as it was.
-- What is left gets shorter with each block.
use Rattle.std.proofs.Common.{◌-◌, replicate}
use Rattle.fx_lanes.proofs.Rows.{Made}
use Rattle.fx_pens.proofs.spans.write_few.Given as goal

abbrev pub invariant-loop-at : goal.invariant-loop-at
invariant-loop-at l = Made l.fn.row l.row (replicate l.at l.fn.color) l.at

abbrev pub decreases-loop-at : goal.decreases-loop-at
decreases-loop-at l = l.last - l.at
