-- the nodes of the parts so far
use Rattle.std.proofs.Common.{◌≡◌, ◌++◌, take}
use Rattle.fx_doc.specs.Views.{nodes_of}
use Rattle.fx_scene_outline.specs.Defined.{nodes_within}
use Rattle.fx_scene_outline.specs.Views.{defined_shown}
use Rattle.fx_scene_outline.proofs.defined.+within.Given as goal

abbrev pub invariant-add_nodes-loop-part : goal.invariant-add_nodes-loop-part
invariant-add_nodes-loop-part l =
    defined_shown l.nodes.items
    ≡ defined_shown l.fn.nodes.items ++ nodes_within l.in_definition (nodes_of (take l.part-index l.content))
