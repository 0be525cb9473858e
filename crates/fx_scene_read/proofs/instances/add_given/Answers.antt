-- an attribute more
use Rattle.fx_doc.specs.Views.{attr_view}
use Rattle.fx_scene_read.specs.Pieces.{attribute_acts}
use Rattle.fx_scene_read.proofs.WalkLemmas.{walked}
use Rattle.fx_scene_things.specs.Known.{known}
use Rattle.fx_scene_values.specs.Views.{scope_view}
use Rattle.fx_scene_read.proofs.instances.add_given.Goals as goal

pub loop-a-preserved : goal.loop-a-preserved
loop-a-preserved c =
    walked attr_view
    (attribute_acts (scope_view c.args.scope.now) (known c.args.names.now) c.args.class c.args.node c.args.given)
    c.args.attributes.now c.loop-a.a-index c.a-item.result c.args.acts.now.items c.loop-a.acts.items
    c.add_attribute.new.acts.items c.loop-a-test.true c.a-item.is c.loop-a.invariant c.in_ok-add_attribute.ensures.ok
