-- white, and then the shapes of the entries
use Rattle.std.proofs.Common.{◌∷◌, [], subst}
use Rattle.fx_canvas.specs.Painting.{IsDrawn, laid_in, points_of}
use Rattle.fx_canvas.proofs.RepaintLemmas.{IsLaidOver, Opaque, rect_drawn}
use Rattle.fx_picture.specs.Bounds.{in_range}
use Rattle.fx_picture.specs.Pixels.{shapes_of}
use Rattle.fx_picture.specs.declared.edges.Bounds.{Bounds}
use Rattle.fx_picture.specs.declared.shapes.Shape.TheVariants.{Fill}
use Rattle.fx_canvas.proofs.painting.repaint_rect.Goals as goal

pub returns : goal.returns
returns g c =
    let rect = c.args.rect in
    let White : Bounds → Type 0 = λ area. IsDrawn (laid_in area (Fill rect Opaque ∷ [])) (in_range area.min_y area.max_y) (points_of area (Fill rect Opaque))
    c.args.rows.now c.lay_shape.new.rows c.args.painted.now c.lay_shape.new.painted in
    let Shapes : Bounds → Type 0 = λ area. IsLaidOver area (shapes_of c.args.entries.now) c.lay_shape.new.rows c.lay_entries.new.rows c.lay_shape.new.painted c.lay_entries.new.painted in
    rect_drawn rect c.args.entries.now c.args.rows.now c.lay_shape.new.rows c.lay_entries.new.rows c.args.painted.now c.lay_shape.new.painted c.lay_entries.new.painted
    c.requires (subst White c.bounds_of-area.ensures c.lay_shape.ensures) (subst Shapes c.bounds_of-area.ensures c.lay_entries.ensures)
