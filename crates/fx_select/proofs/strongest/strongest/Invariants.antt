-- the rest completes what was found so far
use Rattle.std.proofs.Common.{◌≡◌, ◌++◌, drop}
use Rattle.fx_select.specs.Merged.{merged, merged_of}
use Rattle.fx_select.proofs.strongest.strongest.Given as goal

abbrev pub invariant-loop-hit : goal.invariant-loop-hit
invariant-loop-hit l = l.found.items ++ merged l.current (drop l.hit-index l.more) ≡ merged_of l.hits
