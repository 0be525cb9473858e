-- The lines so far, before the lines of what is left, are those of the text.
-- What is left gets shorter with each line.
use Rattle.std.proofs.Common.{length}
use denote.Text.{Utf8}
use denote.Shadow.{shadow}
use Rattle.fx_cells.proofs.Cutting.{Wrapped}
use Rattle.fx_cells.proofs.wrapping.lines.Given as goal

abbrev pub invariant-loop-ranges : goal.invariant-loop-ranges
invariant-loop-ranges l = shadow (Utf8 l.rest) × Wrapped l.fn.columns l.fn.text l.rest l.start l.ranges.items

abbrev pub decreases-loop-ranges : goal.decreases-loop-ranges
decreases-loop-ranges l = length l.rest
