use Rattle.std.proofs.Common.{◌≤◌, ◌∙◌, sym, arith, to_z, of_z}
use Rattle.std.specs.Int.{w128}
use Rattle.std.proofs.lemmas.Int.{to_z-of_z}
use Rattle.fx_cells.specs.Columns.{cell_width}
use Rattle.fx_pens.specs.Dots.{char_dots}
use Rattle.fx_pens.proofs.DotLemmas.{laid-none}
use Rattle.fx_pens.proofs.LetterLemmas.{char_none}
use Rattle.fx_pens.proofs.GlyphLemmas.{char_laid}
use Rattle.fx_pens.proofs.letters.lay_character.Goals as goal

pub returns-then-width_of-eq0 : goal.returns-then-width_of-eq0
returns-then-width_of-eq0 g c =
    laid-none c.args.pen.now (char_dots c.args.pen.now c.args.start c.args.c) c.args.row.now c.args.painted.now c.requires.pen.rises
    (λ x a b. char_none c.args.pen.now c.args.start c.args.c x (sym c.width_of.ensures.width ∙ c.if-width_of-eq0.true))

pub returns : goal.returns
returns g c =
    let wide : 1 ≤ cell_width c.args.c = omega (arith, c.width_of.ensures.width, c.if-width_of-eq0.false) in
    char_laid c.args.pen.now (to_z w128 (of_z w128 c.args.start)) c.args.start c.args.c c.glyph.result c.args.line c.bits_of-bits.result c.args.row.now
    c.args.row.now c.lay_edges.new.row c.args.painted.now c.lay_edges.new.painted c.requires.pen (to_z-of_z w128 c.args.start c.ranges.start)
    c.bits_of-bits.ensures c.glyph.ensures.value c.requires.line wide (c.lay_edges.ensures _ c.edges_from.ensures.edges)
