-- nothing is wrong with the attributes so far
use Rattle.std.proofs.Common.{◌≡◌, drop, map}
use Rattle.fx_doc.specs.Views.{attr_view}
use Rattle.fx_scene_instances.specs.References.{attributes_fault}
use Rattle.fx_scene_things.specs.Known.{known}
use Rattle.fx_scene_instances.proofs.references.attributes_fault.Given as goal

abbrev pub invariant-loop-a : goal.invariant-loop-a
invariant-loop-a l =
    attributes_fault (known l.names) (map attr_view (drop l.a-index l.attributes))
    ≡ attributes_fault (known l.names) (map attr_view l.attributes)
