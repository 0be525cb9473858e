use Rattle.std.proofs.Common.{sym, ◌∙◌}
use Rattle.fx_pulse_touched.specs.Sights.{seen}
use Rattle.fx_pulse_touched.proofs.SceneLemmas.{boxes_long, styles_long}
use Rattle.fx_pulse_touched.proofs.comparing.compared_with.Goals as goal

pub differing_styles-requires-clause-each : goal.differing_styles-requires-clause-each
differing_styles-requires-clause-each c =
    styles_long (seen c.args.last) (seen c.args.scene) c.requires.last c.requires.scene
    (c.have_one_shape.ensures.0 c.if-not-have_one_shape.false)

pub differing_styles-requires-clause-keys : goal.differing_styles-requires-clause-keys
differing_styles-requires-clause-keys c =
    c.requires.last.keys
    ∙ ((c.have_one_shape.ensures.0 c.if-not-have_one_shape.false).keys ∙ sym c.requires.scene.keys)

pub differing_styles-requires-clause-parents : goal.differing_styles-requires-clause-parents
differing_styles-requires-clause-parents c =
    c.requires.last.parents
    ∙ ((c.have_one_shape.ensures.0 c.if-not-have_one_shape.false).parents ∙ sym c.requires.scene.parents)

pub differing_boxes-requires-clause-each : goal.differing_boxes-requires-clause-each
differing_boxes-requires-clause-each c =
    boxes_long (seen c.args.last) (seen c.args.scene) (c.have_one_shape.ensures.0 c.if-not-have_one_shape.false)
