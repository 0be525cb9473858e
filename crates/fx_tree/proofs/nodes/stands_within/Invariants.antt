use Rattle.std.proofs.Common.{◌≡◌, ◌-◌}
use Rattle.fx_tree.specs.Scene.{has, line_in}
use Rattle.fx_tree.specs.Slots.{line_at, up_at}
use Rattle.fx_tree.proofs.nodes.stands_within.Given as goal

abbrev pub invariant-loop-step : goal.invariant-loop-step
invariant-loop-step l = has (line_in (64 - l._step) (up_at l.nodes.slots) l.at) l.upper ≡ has (line_at l.nodes.slots l.fn.key) l.upper
