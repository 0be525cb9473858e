use Rattle.std.proofs.Common.{◌≡◌, ◌++◌, drop, map}
use Rattle.fx_layout_sweeps.specs.Nodes.{child_at}
use Rattle.fx_layout_sweeps.proofs.nodes.seen.Given as goal

-- the children so far and those to come are all
abbrev pub invariant-loop-place : goal.invariant-loop-place
invariant-loop-place l =
    l.children.items ++ map (child_at l.pane l.nodes l.widths l.heights) (drop l.place-index l.places)
    ≡ map (child_at l.pane l.nodes l.widths l.heights) l.places
