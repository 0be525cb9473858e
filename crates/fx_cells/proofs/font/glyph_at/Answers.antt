-- The two tables are compared by computing.
-- Each glyph has fifteen bits.
use Rattle.std.proofs.Common.{refl}
use Rattle.fx_cells.specs.Font.{glyphs}
use Rattle.fx_cells.proofs.Octal.{glyph_small}
use Rattle.fx_cells.proofs.font.glyph_at.Goals as goal

pub returns-clause-value : goal.returns-clause-value
unfolding glyphs
returns-clause-value c = refl

pub returns-clause-bits : goal.returns-clause-bits
unfolding glyphs
returns-clause-bits c = glyph_small c.args.place
