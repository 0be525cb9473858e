-- What is scanned are the marks of a text, and its only ones.
use Rattle.fx_css_marks.specs.Scanning.{Plain, scanned}
use Rattle.fx_css_marks.proofs.Scans.{marks_scanned, one_marking}
use Rattle.fx_css_marks.proofs.laws.texts_are_marked_in_one_way.Goals as goal

pub returns-clause-one : goal.returns-clause-one
returns-clause-one c = one_marking

pub returns-clause-some : goal.returns-clause-some
returns-clause-some c = λ p text. (scanned Plain p text, marks_scanned p text)
