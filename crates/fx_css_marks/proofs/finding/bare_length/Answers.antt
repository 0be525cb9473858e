use Rattle.fx_css_marks.specs.Lengths.{is_stop}
use Rattle.fx_css_marks.proofs.Finds.{run_found, run_missed}
use Rattle.fx_css_marks.proofs.finding.bare_length.Goals as goal

pub returns-in-Some-clause-length : goal.returns-in-Some-clause-length
returns-in-Some-clause-length c = run_found is_stop c.args.text.now c.in-Some.at c.in-Some.ensures

pub returns-in-None-clause-length : goal.returns-in-None-clause-length
returns-in-None-clause-length c = run_missed is_stop c.args.text.now c.in-None.ensures
