use Rattle.std.proofs.Common.{length}
use Rattle.fx_layout_sweeps.specs.Nodes.{parents}
use Rattle.fx_layout_sweeps.proofs.Children.{AreHung}
use Rattle.fx_layout_sweeps.proofs.places.children_lists.Given as goal

abbrev pub invariant-loop-place : goal.invariant-loop-place
invariant-loop-place l = AreHung (parents l.nodes) (length l.nodes) l.place l.lists.items
