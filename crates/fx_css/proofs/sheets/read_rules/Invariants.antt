-- Whatever the rest is read as completes what is read so far.
use Rattle.std.proofs.Common.{length}
use Rattle.fx_css.specs.Numbered.{shown}
use Rattle.fx_css.proofs.Turns.{IsReadSoFar}
use Rattle.fx_css.proofs.sheets.read_rules.Given as goal

abbrev pub invariant-loop-rest : goal.invariant-loop-rest
invariant-loop-rest l = IsReadSoFar l.draft.rules.items l.draft.warnings.items (shown l.rest) (shown l.whole)

abbrev pub decreases-loop-rest : goal.decreases-loop-rest
decreases-loop-rest l = length (shown l.rest)
