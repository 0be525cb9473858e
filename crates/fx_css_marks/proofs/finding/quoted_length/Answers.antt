use Rattle.fx_css_marks.proofs.Finds.{quoted_found, quoted_missed}
use Rattle.fx_css_marks.proofs.finding.quoted_length.Goals as goal

pub returns-in-Some-clause-length : goal.returns-in-Some-clause-length
returns-in-Some-clause-length c = quoted_found c.args.quote c.args.text.now c.in-Some.at c.in-Some.ensures

pub returns-in-None-clause-length : goal.returns-in-None-clause-length
returns-in-None-clause-length c = quoted_missed c.args.quote c.args.text.now c.in-None.ensures
