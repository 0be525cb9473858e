use Rattle.std.proofs.Common.{◌∙◌}
use Rattle.fx_base.specs.declared.color.Color.{Color}
use Rattle.fx_shapes.specs.Drawings.{is_shown}
use Rattle.fx_shapes.specs.Layers.{background_at}
use Rattle.fx_shapes.proofs.ListSteps.{kept_more}
use Rattle.fx_shapes.proofs.layers.add_backgrounds.Goals as goal

pub loop-layer-preserved : goal.loop-layer-preserved
loop-layer-preserved c =
    let clear : Color = record { r = 0; g = 0; b = 0; a = 0 } in
    c.in_ok-add_background.ensures
    ∙ kept_more is_shown (background_at c.args.look.now c.args.rect) c.args.shapes.now.items c.loop-layer.shapes.items
    c.as_slice-color-items.result.now c.loop-layer.layer clear c.loop-layer-test.true c.loop-layer.invariant
