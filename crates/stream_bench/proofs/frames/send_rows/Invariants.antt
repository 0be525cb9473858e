use Rattle.std.proofs.Common.{◌≡◌}
use Rattle.stream_bench.proofs.frames.send_rows.Given as goal

abbrev pub invariant-loop-y : goal.invariant-loop-y
invariant-loop-y l = (l.view.width ≡ l.side) × (l.view.height ≡ l.side)
