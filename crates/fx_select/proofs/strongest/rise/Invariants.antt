-- the rest tells it
use Rattle.std.proofs.Common.{◌≡◌, drop}
use Rattle.fx_select.specs.Merged.{rise, rise_behind}
use Rattle.fx_select.proofs.strongest.rise.Given as goal

abbrev pub invariant-loop-hit : goal.invariant-loop-hit
invariant-loop-hit l = rise_behind l.last (drop l.hit-index l.more) ≡ rise l.hits
