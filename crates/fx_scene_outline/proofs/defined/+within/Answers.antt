-- no part yet, and one part more
use Rattle.std.proofs.Common.{sym}
use Rattle.std.proofs.lemmas.List.{append-nil}
use Rattle.fx_scene_outline.specs.Defined.{nodes_within}
use Rattle.fx_scene_outline.specs.Views.{defined_shown}
use Rattle.fx_scene_outline.proofs.DefinedLemmas.{nodes_more_within}
use Rattle.fx_scene_outline.proofs.defined.+within.Goals as goal

pub add_nodes-loop-part-init : goal.add_nodes-loop-part-init
unfolding nodes_within
add_nodes-loop-part-init t c = sym (append-nil (defined_shown c.args.nodes.now.items))

pub add_nodes-loop-part-preserved : goal.add_nodes-loop-part-preserved
add_nodes-loop-part-preserved t c =
    nodes_more_within c.args.in_definition c.args.content.now c.loop-part.part-index c.part-item.result
    (defined_shown c.args.nodes.now.items) (defined_shown c.loop-part.nodes.items)
    (defined_shown c.add_part.new.nodes.items) c.loop-part-test.true c.part-item.is c.loop-part.invariant
    c.in_ok-add_part.ensures.ok
