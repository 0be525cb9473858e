use Rattle.std.proofs.Common.{◌≡◌}
use Rattle.fx_base.specs.Positions.{start, after_all}
use Rattle.fx_doc.proofs.bytes.position_behind.Given as goal

abbrev pub invariant-loop-c : goal.invariant-loop-c
invariant-loop-c l = l.position ≡ after_all start l.yielded
