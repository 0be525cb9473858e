-- the attributes so far
use Rattle.std.proofs.Common.{◌≡◌, ◌++◌, map, take}
use Rattle.std.specs.List.{flat_map}
use Rattle.fx_doc.specs.Views.{attr_view}
use Rattle.fx_scene_read.specs.Pieces.{root_attribute}
use Rattle.fx_scene_things.specs.Known.{known}
use Rattle.fx_scene_values.specs.Views.{scope_view}
use Rattle.fx_scene_read.proofs.instances.add_root_given.Given as goal

abbrev pub invariant-loop-a : goal.invariant-loop-a
invariant-loop-a l =
    l.acts.items ≡ l.fn.acts.items ++ flat_map (root_attribute (scope_view l.scope) (known l.names) l.class l.node l.given)
    (map attr_view (take l.a-index l.attributes))
