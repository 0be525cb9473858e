use Rattle.std.proofs.Common.{◌≡◌, ◌++◌, take}
use Rattle.std.specs.List.{enumerate_from, flat_map}
use Rattle.fx_shapes.specs.Drawings.{shown}
use Rattle.fx_shapes.specs.Layers.{border_layer}
use Rattle.fx_shapes.proofs.layers.add_borders.Given as goal

abbrev pub invariant-loop-layer : goal.invariant-loop-layer
invariant-loop-layer l = l.shapes.items ≡ l.fn.shapes.items ++ shown (flat_map (border_layer l.look l.rect) (enumerate_from 0 (take l.layer l.color-items)))
