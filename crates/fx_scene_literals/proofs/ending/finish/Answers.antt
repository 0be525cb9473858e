-- the name that the attributes give to what was made
use Rattle.std.proofs.Common.{ℕ, List, Option, ◌∙◌, ap, map}
use Rattle.fx_doc.specs.Views.{attr_view}
use Rattle.std.proofs.Common.{codes}
use Rattle.fx_scene_bindings.specs.Names.{value_at}
use Rattle.fx_scene_literals.specs.Literals.{named_if}
use Rattle.fx_scene_things.specs.Known.{known}
use Rattle.fx_scene_things.specs.declared.things.Thing.{Thing}
use Rattle.fx_scene_literals.proofs.ending.finish.Goals as goal

pub returns-in_ok-put_thing-in-Whole-clause-names : goal.returns-in_ok-put_thing-in-Whole-clause-names
returns-in_ok-put_thing-in-Whole-clause-names c =
    let names = known c.args.names.now in
    rw c.in-Whole.is
    (c.in_ok-put_thing-in-Whole.ensures.ok
    ∙ (ap (λ (name : Option (List ℕ)). named_if names c.in_ok-thing-in-Whole.thing name) c.value_at.ensures
    ∙ ap (λ (one : Thing). named_if names one (value_at (map attr_view c.args.attributes.now) (codes "fx:id")))
    c.in_ok-thing-in-Whole.ensures))
