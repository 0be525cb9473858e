-- The search tells the first such byte.
use Rattle.std.proofs.Common.{subst}
use Rattle.memchr.specs.Find.{IsFirstByte, is_byte}
use Rattle.fx_css_marks.proofs.Finds.{run_found, run_missed}
use Rattle.fx_css.proofs.cutting.first_of.Goals as goal

pub returns-in-Some : goal.returns-in-Some
returns-in-Some c = run_found (is_byte c.args.sign) c.args.signs.now c.in-Some.at (subst (IsFirstByte (is_byte c.args.sign) c.args.signs.now) c.in-Some.is c.memchr.ensures)

pub returns-in-None : goal.returns-in-None
returns-in-None c = run_missed (is_byte c.args.sign) c.args.signs.now (subst (IsFirstByte (is_byte c.args.sign) c.args.signs.now) c.in-None.is c.memchr.ensures)
