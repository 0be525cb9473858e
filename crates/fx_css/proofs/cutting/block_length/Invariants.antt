-- The length up to here, and that of the rest with what is open, is the whole.
use Rattle.std.proofs.Common.{◌≡◌, ◌≤◌, ◌+◌, length}
use Rattle.fx_css.specs.Numbered.{shown}
use Rattle.fx_css.specs.Cutting.{block_length}
use Rattle.fx_css.proofs.cutting.block_length.Given as goal

abbrev pub invariant-loop-first : goal.invariant-loop-first
invariant-loop-first l = record {
  whole : l.taken + block_length l.open (shown l.rest) ≡ block_length 0 (shown l.part);
  deep : l.open ≤ l.taken;
  within : l.taken + length (shown l.rest) ≡ length (shown l.part);
}

abbrev pub decreases-loop-first : goal.decreases-loop-first
decreases-loop-first l = length (shown l.rest)
