-- an attribute stops the reading, or it goes on behind it
use Rattle.std.proofs.Common.{ap, map}
use Rattle.fx_doc.specs.Views.{attr_view}
use Rattle.fx_scene_instances.specs.Fields.{first_made}
use Rattle.fx_scene_instances.specs.declared.made.Found.TheVariants.{Flaw, Node}
use Rattle.fx_scene_literals.specs.Literals.{Told, made_from}
use Rattle.fx_scene_literals.proofs.AttributeLemmas.{attribute_goes, attribute_stops}
use Rattle.fx_scene_things.specs.Known.{known}
use Rattle.fx_scene_values.specs.Views.{scope_view}
use Rattle.fx_scene_literals.proofs.attributes.made_from.Goals as goal

pub returns-in-Flaw : goal.returns-in-Flaw
returns-in-Flaw c =
    let scope = scope_view c.args.scope.now in
    let stops =
    attribute_stops scope c.args.class c.args.attributes.now c.loop-a.a-index c.a-item.result c.loop-a.made
    (known c.loop-a.names) (known c.read_attribute.new.names) c.in_ok-next.field-0
    (made_from scope c.args.class (first_made c.args.class) (known c.args.names.now) (map attr_view c.args.attributes.now))
    (Flaw c.in-Flaw.flaw c.in-Flaw.place) c.loop-a-test.true c.a-item.is c.in_ok-next.ensures.found
    c.in_ok-next.ensures.names c.in-Flaw.is tt c.loop-a.invariant in
    record { found = ap (λ (t : Told). t.found) stops; names = ap (λ (t : Told). t.names) stops }

pub returns-in-Node : goal.returns-in-Node
returns-in-Node c =
    let scope = scope_view c.args.scope.now in
    let stops =
    attribute_stops scope c.args.class c.args.attributes.now c.loop-a.a-index c.a-item.result c.loop-a.made
    (known c.loop-a.names) (known c.read_attribute.new.names) c.in_ok-next.field-0
    (made_from scope c.args.class (first_made c.args.class) (known c.args.names.now) (map attr_view c.args.attributes.now))
    (Node c.in-Node.place) c.loop-a-test.true c.a-item.is c.in_ok-next.ensures.found
    c.in_ok-next.ensures.names c.in-Node.is tt c.loop-a.invariant in
    record { found = ap (λ (t : Told). t.found) stops; names = ap (λ (t : Told). t.names) stops }

pub loop-a-preserved : goal.loop-a-preserved
loop-a-preserved c =
    let scope = scope_view c.args.scope.now in
    attribute_goes scope c.args.class c.args.attributes.now c.loop-a.a-index c.a-item.result c.loop-a.made
    c.in-Whole.next (known c.loop-a.names) (known c.read_attribute.new.names) c.in_ok-next.field-0
    (made_from scope c.args.class (first_made c.args.class) (known c.args.names.now) (map attr_view c.args.attributes.now))
    c.loop-a-test.true c.a-item.is c.in_ok-next.ensures.found c.in_ok-next.ensures.names
    c.in-Whole.is c.loop-a.invariant
