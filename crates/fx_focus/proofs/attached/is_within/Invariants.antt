use Rattle.std.proofs.Common.{◌≡◌, ◌-◌}
use Rattle.fx_tree.specs.Scene.{has, is_within, line_in, parent_of}
use Rattle.fx_focus.proofs.attached.is_within.Given as goal

abbrev pub invariant-loop-level : goal.invariant-loop-level
invariant-loop-level l =
    has (line_in (64 - l._level) (parent_of l.tree.nodes) l.above) l.upper ≡ is_within l.tree.nodes l.upper l.fn.key
