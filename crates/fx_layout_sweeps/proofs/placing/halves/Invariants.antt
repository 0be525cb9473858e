use Rattle.std.proofs.Common.{◌≡◌, ◌++◌, drop, map}
use Rattle.fx_layout_sweeps.specs.Sweeps.{half}
use Rattle.fx_layout_sweeps.proofs.placing.halves.Given as goal

abbrev pub invariant-loop-rect : goal.invariant-loop-rect
invariant-loop-rect l = l.spans.items ++ map (half l.axis) (drop l.rect-index l.rects) ≡ map (half l.axis) l.rects
