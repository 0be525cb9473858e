-- the rectangles so far stand behind what stood there
use Rattle.std.proofs.Common.{◌≡◌, ◌++◌, take}
use Rattle.std.specs.List.{flat_map}
use Rattle.fx_frame_text.specs.Frames.{rect_line}
use Rattle.fx_frame_text.proofs.frames.put_rects.Given as goal

abbrev pub invariant-loop-rect : goal.invariant-loop-rect
invariant-loop-rect l = l.text.items ≡ l.fn.text.items ++ flat_map rect_line (take l.rect-index l.rects)
