use Rattle.std.proofs.Common.{ℕ, ◌<◌}
use Rattle.fx_layout_sweeps.specs.Nodes.{node_at}
use Rattle.fx_layout.specs.Fits.{StandsBehind}
use Rattle.fx_layout.proofs.nodes.is_tree.Given as goal

abbrev pub invariant-loop-place : goal.invariant-loop-place
invariant-loop-place l = (p : ℕ) → p < l.place → StandsBehind (node_at l.nodes p).parent p
