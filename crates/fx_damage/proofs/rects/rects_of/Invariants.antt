use Rattle.std.proofs.Common.{◌≡◌, map, take}
use Rattle.fx_picture.specs.Bounds.{rect_of}
use Rattle.fx_damage.proofs.rects.rects_of.Given as goal

abbrev pub invariant-loop-bounds : goal.invariant-loop-bounds
invariant-loop-bounds l = l.rects.items ≡ map rect_of (take l.bounds-index l.boxes)
