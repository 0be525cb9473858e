use Rattle.std.proofs.Common.{◌≡◌, ◌-◌, ◌++◌}
use Rattle.fx_tree.specs.Scene.{line, line_in, parent_of}
use Rattle.fx_events.proofs.routes.push_line.Given as goal

abbrev pub invariant-loop-step : goal.invariant-loop-step
invariant-loop-step l =
    l.nodes.items ++ line_in (64 - l._step) (parent_of l.tree.nodes) l.at ≡ l.fn.nodes.items ++ line l.tree.nodes l.fn.target
