-- behind the rest is behind the whole
use Rattle.std.proofs.Common.{◌≡◌, ◌<◌, ◌+◌, ◌^◌, length}
use Rattle.fx_base.specs.Positions.{after_bytes}
use Rattle.fx_base.proofs.positions.Position.after_bytes.Given as goal

abbrev pub invariant-loop-first : goal.invariant-loop-first
invariant-loop-first l = record {
  behind : after_bytes l.position l.rest ≡ after_bytes l.initial.position l.bytes;
  line : l.position.line + length l.rest < 2 ^ 31;
  column : l.position.column + length l.rest < 2 ^ 31;
}

abbrev pub decreases-loop-first : goal.decreases-loop-first
decreases-loop-first l = length l.rest
