use Rattle.std.proofs.Common.{◌≡◌, ◌<◌, true, length}
use Rattle.fx_tree.specs.Scene.{has}
use Rattle.fx_tree.specs.Slots.{alive_at, line_at}
use Rattle.fx_tree.proofs.nodes.last_leaf.Given as goal

abbrev pub invariant-loop-step : goal.invariant-loop-step
invariant-loop-step l =
    (alive_at l.nodes.slots l.at ≡ true)
    × (has (line_at l.nodes.slots l.at) l.fn.key ≡ true)
    × (l._step < length (line_at l.nodes.slots l.at))
