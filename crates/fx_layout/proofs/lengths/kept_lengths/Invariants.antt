use Rattle.std.proofs.Common.{◌≡◌, map, take}
use Rattle.fx_layout_sweeps.specs.Nodes.{extent_at}
use Rattle.fx_layout.proofs.lengths.kept_lengths.Given as goal

abbrev pub invariant-loop-old : goal.invariant-loop-old
invariant-loop-old l = l.kept.items ≡ map (extent_at l.lengths) (take l.old-index l.olds)
