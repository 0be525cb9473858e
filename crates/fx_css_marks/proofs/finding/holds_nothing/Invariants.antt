-- the rest is bare where the whole is
use Rattle.std.proofs.Common.{◌≡◌, length}
use Rattle.fx_css_marks.specs.Lengths.{is_bare}
use Rattle.fx_css_marks.proofs.finding.holds_nothing.Given as goal

abbrev pub invariant-loop-first : goal.invariant-loop-first
invariant-loop-first l = is_bare l.rest ≡ is_bare l.text

abbrev pub decreases-loop-first : goal.decreases-loop-first
decreases-loop-first l = length l.rest
