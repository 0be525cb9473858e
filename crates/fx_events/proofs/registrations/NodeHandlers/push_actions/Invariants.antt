use Rattle.std.proofs.Common.{◌≡◌, ◌++◌, take}
use Rattle.fx_events.specs.Handlers.{actions_for}
use Rattle.fx_events.proofs.registrations.NodeHandlers.push_actions.Given as goal

abbrev pub invariant-loop-registration : goal.invariant-loop-registration
invariant-loop-registration l =
    l.calls.items ≡ l.initial.calls.items ++ actions_for l.kind l.phase (take l.registration-index l.registration-items)
