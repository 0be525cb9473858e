use Rattle.std.proofs.Common.{◌≡◌, ◌++◌, map, take}
use Rattle.std.specs.List.{enumerate_from}
use Rattle.fx_shapes.specs.Drawings.{shown}
use Rattle.fx_shapes.specs.Layers.{background_at}
use Rattle.fx_shapes.proofs.layers.add_backgrounds.Given as goal

abbrev pub invariant-loop-layer : goal.invariant-loop-layer
invariant-loop-layer l = l.shapes.items ≡ l.fn.shapes.items ++ shown (map (background_at l.look l.rect) (enumerate_from 0 (take l.layer l.color-items)))
