use Rattle.std.proofs.Common.{◌≡◌, take}
use Rattle.std.specs.List.{flat_map}
use Rattle.fx_events.specs.Handlers.{calls_as}
use Rattle.fx_events.proofs.registrations.NodeHandlers.calls.Given as goal

abbrev pub invariant-loop-kind : goal.invariant-loop-kind
invariant-loop-kind l = l.calls.items ≡ flat_map (calls_as l.phase l.self) (take l.kind-index l.kind-items)
