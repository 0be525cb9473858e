use Rattle.std.proofs.Common.{◌≡◌, [], replicate}
use Rattle.fx_layout_sweeps.proofs.places.empty_lists.Given as goal

abbrev pub invariant-loop-place : goal.invariant-loop-place
invariant-loop-place l = l.lists.items ≡ replicate l.place []
