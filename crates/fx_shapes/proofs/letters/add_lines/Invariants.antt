use Rattle.std.proofs.Common.{◌≡◌, ◌++◌, map, take}
use Rattle.fx_shapes.specs.Drawings.{shown}
use Rattle.fx_shapes.specs.Letters.{line_of, lines_of}
use Rattle.fx_shapes.proofs.letters.add_lines.Given as goal

abbrev pub invariant-loop-index : goal.invariant-loop-index
invariant-loop-index l = l.shapes.items ≡ l.fn.shapes.items ++ shown (lines_of l.block (map (line_of l.text) (take l.index l.ranges)))
