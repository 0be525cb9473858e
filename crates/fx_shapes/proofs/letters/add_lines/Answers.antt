use Rattle.std.proofs.Common.{◌∙◌, ◌++◌, ◌∷◌, [], ap}
use Rattle.fx_shapes.specs.Drawings.{is_shown, shown}
use Rattle.fx_shapes.specs.Letters.{line_at, line_of}
use Rattle.fx_shapes.proofs.ListSteps.{kept_more_mapped}
use Rattle.fx_shapes.proofs.letters.add_lines.Goals as goal

pub loop-index-preserved : goal.loop-index-preserved
loop-index-preserved c =
    let b = c.args.block.now in
    c.in_ok-add_line.ensures
    ∙ (ap (λ l. c.loop-index.shapes.items ++ shown (line_at b (c.loop-index.index, l) ∷ [])) c.in_ok-line.ensures
    ∙ kept_more_mapped is_shown (line_at b) (line_of c.args.text.now) c.args.shapes.now.items c.loop-index.shapes.items
    c.args.ranges.now c.loop-index.index (0, 0) c.loop-index-test.true c.loop-index.invariant)
