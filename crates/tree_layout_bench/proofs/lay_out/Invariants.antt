use Rattle.std.proofs.Common.{◌≡◌, length}
use Rattle.tree_layout_bench.proofs.lay_out.Given as goal

abbrev pub invariant-loop-round : goal.invariant-loop-round
invariant-loop-round g l = length l.looks.items ≡ length l.nodes
