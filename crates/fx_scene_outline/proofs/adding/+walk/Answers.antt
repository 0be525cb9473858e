-- no part yet, and one part more
use Rattle.std.proofs.Common.{sym}
use Rattle.std.proofs.lemmas.List.{append-nil}
use Rattle.fx_scene_outline.specs.Edges.{earlier_in}
use Rattle.fx_scene_outline.specs.Outlines.{pieces}
use Rattle.fx_scene_outline.specs.Views.{shown}
use Rattle.fx_scene_outline.proofs.PartLemmas.{earlier_more, part_more}
use Rattle.fx_scene_outline.proofs.adding.+walk.Goals as goal

pub add_content-loop-part-init : goal.add_content-loop-part-init
unfolding pieces earlier_in
add_content-loop-part-init t c = (sym (append-nil (shown c.args.pieces.now.items)), c.nothing-earlier.ensures)

pub add_content-loop-part-preserved : goal.add_content-loop-part-preserved
add_content-loop-part-preserved t c = (
  part_more c.args.room c.args.content.now c.loop-part.part-index c.part-item.result c.loop-part.earlier
      c.args.pieces.now.items c.loop-part.pieces.items c.add_part.new.pieces.items c.loop-part-test.true c.part-item.is
      c.loop-part.invariant.0 c.loop-part.invariant.1 c.in_ok-add_part.ensures.ok,
  earlier_more c.args.content.now c.loop-part.part-index c.part-item.result c.loop-part.earlier c.with-earlier.result
      c.loop-part-test.true c.part-item.is c.loop-part.invariant.1 c.with-earlier.ensures,
)
