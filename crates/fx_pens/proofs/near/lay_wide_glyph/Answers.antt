use Rattle.std.proofs.Common.{◌≤◌, arith}
use Rattle.std.proofs.lemmas.Int.{ints}
use Rattle.fx_cells.specs.Columns.{cell_width}
use Rattle.fx_pens.proofs.GlyphLemmas.{char_laid}
use Rattle.fx_pens.proofs.near.lay_wide_glyph.Goals as goal

pub returns-then-fits : goal.returns-then-fits
returns-then-fits g c =
    let plain = c.fits.ensures.plain c.if-fits.true in
    let left = c.fits.ensures.left c.if-fits.true in
    let wide : 1 ≤ cell_width c.args.c = omega (arith, plain) in
    let first = c.ranges.start in
    char_laid c.args.pen.now _ c.args.start c.args.c c.glyph.result c.args.line c.bits_of.result c.args.row.now
    c.args.row.now c.lay_runs.new.row c.args.painted.now c.lay_runs.new.painted c.requires.pen
    (omega (arith, ints, left, first)) c.bits_of.ensures c.glyph.ensures.value c.requires.line wide c.lay_runs.ensures
