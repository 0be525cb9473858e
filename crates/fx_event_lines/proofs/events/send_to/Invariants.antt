use Rattle.std.proofs.Common.{◌≡◌, ◌++◌, take}
use Rattle.fx_event_lines.specs.Started.{sent_to}
use Rattle.fx_event_lines.proofs.events.send_to.Given as goal

abbrev pub invariant-loop-target : goal.invariant-loop-target
invariant-loop-target l = l.events.items ≡ l.fn.events.items ++ sent_to l.on (take l.target-index l.targets)
