-- what is said so far stands before what is left
use Rattle.std.proofs.Common.{length}
use Rattle.fx_css_marks.specs.Saying.{Says}
use Rattle.fx_css_marks.proofs.saying.spoken.Given as goal

abbrev pub invariant-loop-first : goal.invariant-loop-first
invariant-loop-first l = Says l.text l.rest l.said.bytes.items l.said.signs.items

abbrev pub decreases-loop-first : goal.decreases-loop-first
decreases-loop-first l = length l.rest
