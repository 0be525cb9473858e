use Rattle.std.proofs.Common.{◌≡◌, length}
use Rattle.fx_text.specs.Trimming.{trim_back}
use Rattle.fx_text.proofs.trimming.trim_back.Given as goal

abbrev pub invariant-loop-last : goal.invariant-loop-last
invariant-loop-last l = trim_back l.rest ≡ trim_back l.text

abbrev pub decreases-loop-last : goal.decreases-loop-last
decreases-loop-last l = length l.rest
