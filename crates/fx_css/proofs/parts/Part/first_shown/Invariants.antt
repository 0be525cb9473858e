-- What is shown first of the rest is shown first of all.
use Rattle.std.proofs.Common.{◌≡◌, length}
use Rattle.fx_css.specs.Numbered.{shown}
use Rattle.fx_css.specs.Pieces.{first_shown}
use Rattle.fx_css.proofs.parts.Part.first_shown.Given as goal

abbrev pub invariant-loop-first : goal.invariant-loop-first
invariant-loop-first l = first_shown (shown l.rest) ≡ first_shown (shown l.self)

abbrev pub decreases-loop-first : goal.decreases-loop-first
decreases-loop-first l = length (shown l.rest)
