-- a character without cells shows nothing, and any other one its glyph
use Rattle.std.proofs.Common.{◌≡◌, ◌≤◌, ◌∙◌, ◌/◌, ap, sym, subst, arith, w64, to_z, of_z}
use Rattle.std.proofs.lemmas.Int.{to_z-of_z}
use Rattle.fx_cells.specs.Columns.{cell_width}
use Rattle.fx_pens.specs.Dots.{IsStamp, char_dots, stamp_dots}
use Rattle.fx_pens.specs.declared.spans.Pen.{Pen}
use Rattle.fx_pens.specs.declared.stamps.Stamp.{Stamp}
use Rattle.fx_pens.proofs.StampLemmas.{blank_edges, blank_is, stamp_edges, stamp_is}
use Rattle.fx_pens.proofs.stamps.stamp_of.Goals as goal

pub returns-then-width_of-eq0-clause-edges : goal.returns-then-width_of-eq0-clause-edges
returns-then-width_of-eq0-clause-edges c =
    let pen = c.args.pen.now in
    subst (λ (s : Stamp). IsStamp pen.left pen.right s) (sym c.blank.ensures) (blank_edges pen.left pen.right c.requires.rises)

pub returns-then-width_of-eq0-clause-dots : goal.returns-then-width_of-eq0-clause-dots
returns-then-width_of-eq0-clause-dots c = λ below x a b.
    let pen : Pen = record c.args.pen.now { below = below } in
    ap (λ (s : Stamp). stamp_dots s (below / pen.scale) x) c.blank.ensures
    ∙ blank_is pen c.args.start c.args.c pen.left x (sym c.width_of.ensures.width ∙ c.if-width_of-eq0.true)

pub returns-clause-edges : goal.returns-clause-edges
returns-clause-edges c =
    let pen = c.args.pen.now in
    let start = to_z w64 (of_z w64 c.args.start) in
    stamp_edges pen.left pen.right pen.scale c.glyph.result c.column-first.result c.column-second.result c.column-third.result c.column-end.result
    start c.requires.rises c.column-first.ensures c.column-second.ensures c.column-third.ensures c.column-end.ensures

pub returns-clause-dots : goal.returns-clause-dots
returns-clause-dots c = λ below x a b.
    let pen : Pen = record c.args.pen.now { below = below } in
    let start = to_z w64 (of_z w64 c.args.start) in
    let same : start ≡ c.args.start = to_z-of_z w64 c.args.start c.ranges.start in
    let wide : 1 ≤ cell_width c.args.c = omega (arith, c.width_of.ensures.width, c.if-width_of-eq0.false) in
    stamp_is pen start c.args.c c.glyph.result c.column-first.result c.column-second.result c.column-third.result c.column-end.result x
    c.glyph.ensures.value wide c.requires.some c.requires.rises
    c.column-first.ensures c.column-second.ensures c.column-third.ensures c.column-end.ensures a b
    ∙ ap (λ z. char_dots pen z c.args.c x) same
