use Rattle.std.proofs.Common.{◌≡◌, ◌+◌, ◌-◌, length}
use Rattle.fx_tree.specs.Scene.{line_in}
use Rattle.fx_tree.specs.Slots.{line_at, up_at}
use Rattle.fx_tree.proofs.nodes.depth_of.Given as goal

abbrev pub invariant-loop-steps : goal.invariant-loop-steps
invariant-loop-steps l = l.steps + length (line_in (64 - l.steps) (up_at l.nodes.slots) l.at) ≡ length (line_at l.nodes.slots l.fn.key)
