-- What is kept and dropped so far, with what is of the rest, is what is of all.
use Rattle.std.proofs.Common.{length}
use Rattle.fx_css.specs.Numbered.{shown}
use Rattle.fx_css.proofs.Bodies.{IsSoFar}
use Rattle.fx_css.proofs.declarations.read_declarations.Given as goal

abbrev pub invariant-loop-rest : goal.invariant-loop-rest
invariant-loop-rest l = IsSoFar l.declarations.items l.warnings.items l.initial.warnings.items (shown l.rest) (shown l.body)

abbrev pub decreases-loop-rest : goal.decreases-loop-rest
decreases-loop-rest l = length (shown l.rest)
