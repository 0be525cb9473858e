-- whoever runs an action first from the start on stands here or further on
use Rattle.std.proofs.Common.{◌≡◌, drop}
use Rattle.fx_plain_dispatch.specs.Settling.{first_run}
use Rattle.fx_act.proofs.settling.next_run.Given as goal

abbrev pub invariant-loop-place : goal.invariant-loop-place
invariant-loop-place l =
    first_run l.stage l.fn.from (drop l.fn.from l.heard) ≡ first_run l.stage l.place (drop l.place l.heard)
