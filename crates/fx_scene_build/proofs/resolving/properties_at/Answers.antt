-- one property more, one that isn't there, and no more
use Rattle.fx_scene_plan.specs.Plans.{standing_of}
use Rattle.fx_scene_build.proofs.PropertyLemmas.{all_found, turn_found, turn_missing}
use Rattle.fx_scene_build.proofs.resolving.properties_at.Goals as goal

pub returns-in_err-property_at : goal.returns-in_err-property_at
returns-in_err-property_at c =
    turn_missing c.loop-property.names.items (standing_of c.args.stage.now c.args.keys.now) c.args.properties.now
    c.loop-property.property-index c.property-item.result c.in_err-property_at.field-0.0 c.from_residual-in_err-property_at.result
    c.loop-property-test.true c.property-item.is c.in_err-property_at.ensures c.loop-property.invariant
    c.from_residual-in_err-property_at.ensures.1

pub loop-property-preserved : goal.loop-property-preserved
loop-property-preserved c =
    turn_found c.loop-property.names.items c.push.new.self.items (standing_of c.args.stage.now c.args.keys.now)
    c.args.properties.now c.loop-property.property-index c.property-item.result c.in_ok-property_at.field-0
    c.loop-property-test.true c.property-item.is c.in_ok-property_at.ensures c.in_ok-push.ensures.items
    c.loop-property.invariant

pub returns : goal.returns
returns c =
    all_found c.loop-property.names.items (standing_of c.args.stage.now c.args.keys.now) c.args.properties.now
    c.loop-property.property-index c.loop-property-test.false c.loop-property.invariant
