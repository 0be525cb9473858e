-- what is made so far, and what is left
use Rattle.std.proofs.Common.{◌≡◌, drop, map}
use Rattle.fx_doc.specs.Views.{attr_view}
use Rattle.fx_scene_instances.specs.Fields.{first_made}
use Rattle.fx_scene_literals.specs.Literals.{made_from}
use Rattle.fx_scene_things.specs.Known.{known}
use Rattle.fx_scene_values.specs.Views.{scope_view}
use Rattle.fx_scene_literals.proofs.attributes.made_from.Given as goal

abbrev pub invariant-loop-a : goal.invariant-loop-a
invariant-loop-a l =
    made_from (scope_view l.scope) l.class l.made (known l.names) (map attr_view (drop l.a-index l.attributes))
    ≡ made_from (scope_view l.scope) l.class (first_made l.class) (known l.fn.names) (map attr_view l.attributes)
