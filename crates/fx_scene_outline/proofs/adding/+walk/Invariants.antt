-- the pieces of the parts so far, and what stands before the next one
use Rattle.std.proofs.Common.{◌≡◌, ◌++◌, length, take}
use Rattle.fx_doc.specs.Views.{nodes_of}
use Rattle.fx_scene_outline.specs.Edges.{earlier_in}
use Rattle.fx_scene_outline.specs.Outlines.{pieces}
use Rattle.fx_scene_outline.specs.Views.{shown}
use Rattle.fx_scene_outline.proofs.adding.+walk.Given as goal

abbrev pub invariant-add_content-loop-part : goal.invariant-add_content-loop-part
invariant-add_content-loop-part l =
    (shown l.pieces.items ≡ shown l.fn.pieces.items ++ pieces l.room (length l.fn.pieces.items) (nodes_of (take l.part-index l.content)))
    × (l.earlier ≡ earlier_in (nodes_of (take l.part-index l.content)))
