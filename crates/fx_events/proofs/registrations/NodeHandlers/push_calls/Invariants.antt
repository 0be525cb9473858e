use Rattle.std.proofs.Common.{◌≡◌, ◌++◌, take}
use Rattle.std.specs.List.{flat_map}
use Rattle.fx_events.specs.declared.kinds.Phase.{Phase}
use Rattle.fx_events.specs.Handlers.{actions_for}
use Rattle.fx_events.proofs.registrations.NodeHandlers.push_calls.Given as goal

abbrev pub invariant-loop-part : goal.invariant-loop-part
invariant-loop-part l =
    l.calls.items
    ≡ l.initial.calls.items ++ flat_map (λ (part : Phase). actions_for l.kind part l.self) (take l.part-index l.part-items)
