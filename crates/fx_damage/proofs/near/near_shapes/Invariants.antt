use Rattle.std.proofs.Common.{◌≡◌, drop, fold, map}
use Rattle.fx_picture.specs.Bounds.{hull_of, join}
use Rattle.fx_picture.specs.Shapes.{bounds}
use Rattle.fx_damage.specs.Near.{wide}
use Rattle.fx_damage.proofs.near.near_shapes.Given as goal

abbrev pub invariant-loop-shape : goal.invariant-loop-shape
invariant-loop-shape l = fold join (wide l.all) (map bounds (drop l.shape-index l.shapes)) ≡ hull_of (map bounds l.shapes)
