-- what lies in the area is a block, unless nothing does
use Rattle.std.proofs.Common.{◌≡◌, ◌∙◌, false, ap, sym, subst}
use Rattle.fx_canvas.specs.Painting.{HasEdges}
use Rattle.fx_canvas.proofs.AreaLemmas.{area_drawn, area_none, cut_block, cut_edges}
use Rattle.fx_picture.specs.Bounds.{is_empty, meet}
use Rattle.fx_picture.specs.Shapes.{bounds}
use Rattle.fx_picture.specs.declared.edges.Bounds.{Bounds}
use Rattle.fx_canvas.proofs.painting.lay_cut.Goals as goal

pub returns-then-is_clipped_away : goal.returns-then-is_clipped_away
returns-then-is_clipped_away g c =
    area_none c.args.area c.args.shape.now c.args.rows.now c.args.painted.now
    (c.is_clipped_away.ensures c.if-is_clipped_away.true)

pub returns-then-is_empty : goal.returns-then-is_empty
returns-then-is_empty g c =
    let cut : c.meeting-cut.result ≡ meet c.args.area (bounds c.args.shape.now) = c.meeting-cut.ensures ∙ ap (meet c.args.area) c.bounds.ensures in
    area_none c.args.area c.args.shape.now c.args.rows.now c.args.painted.now
    (sym (ap is_empty cut) ∙ (sym c.is_empty.ensures ∙ c.if-is_empty.true))

pub lay_block-requires : goal.lay_block-requires
lay_block-requires g c =
    let area = c.args.area in
    let shape = c.args.shape.now in
    let cut : c.meeting-cut.result ≡ meet area (bounds shape) = c.meeting-cut.ensures ∙ ap (meet area) c.bounds.ensures in
    let some : is_empty (meet area (bounds shape)) ≡ false = sym (ap is_empty cut) ∙ (sym c.is_empty.ensures ∙ c.if-is_empty.false) in
    cut_block area shape c.block_of.result c.args.rows.now c.requires (cut_edges area (bounds shape) c.args.rows.now c.requires some)
    (subst (λ (b : Bounds). HasEdges c.block_of.result b) cut c.block_of.ensures)

pub returns : goal.returns
returns g c =
    let area = c.args.area in
    let shape = c.args.shape.now in
    let cut : c.meeting-cut.result ≡ meet area (bounds shape) = c.meeting-cut.ensures ∙ ap (meet area) c.bounds.ensures in
    area_drawn area shape c.block_of.result c.args.rows.now c.lay_block.new.rows c.args.painted.now c.lay_block.new.painted
    (subst (λ (b : Bounds). HasEdges c.block_of.result b) cut c.block_of.ensures) c.lay_block.ensures
