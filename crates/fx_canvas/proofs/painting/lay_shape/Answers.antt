-- what begins below the area shows nothing there
use Rattle.std.proofs.Common.{◌∙◌, sym}
use Rattle.fx_canvas.specs.Painting.{first_row}
use Rattle.fx_canvas.proofs.AreaLemmas.{area_none}
use Rattle.fx_canvas.proofs.ClipLemmas.{below_empty}
use Rattle.fx_pens.proofs.LetterLemmas.{le_from}
use Rattle.fx_canvas.proofs.painting.lay_shape.Goals as goal

pub returns-then-begins_below : goal.returns-then-begins_below
returns-then-begins_below g c =
    let area = c.args.area in
    let shape = c.args.shape.now in
    area_none area shape c.args.rows.now c.args.painted.now
    (below_empty area shape (le_from area.max_y (first_row shape) (sym c.begins_below.ensures ∙ c.if-begins_below.true)))
