-- The search tells the first such byte.
use Rattle.std.proofs.Common.{subst}
use Rattle.memchr.specs.Find.{IsFirstByte, is_byte2}
use Rattle.fx_css_marks.proofs.Finds.{run_found, run_missed}
use Rattle.fx_css.proofs.cutting.first_of_two.Goals as goal

pub returns-in-Some : goal.returns-in-Some
returns-in-Some c = run_found (is_byte2 c.args.one c.args.other) c.args.signs.now c.in-Some.at (subst (IsFirstByte (is_byte2 c.args.one c.args.other) c.args.signs.now) c.in-Some.is c.memchr2.ensures)

pub returns-in-None : goal.returns-in-None
returns-in-None c = run_missed (is_byte2 c.args.one c.args.other) c.args.signs.now (subst (IsFirstByte (is_byte2 c.args.one c.args.other) c.args.signs.now) c.in-None.is c.memchr2.ensures)
