use Rattle.fx_css_marks.specs.Walks.{left}
use Rattle.fx_css_marks.proofs.Steps.{position_told}
use Rattle.fx_css_marks.proofs.walking.position.Goals as goal

pub returns : goal.returns
returns c = λ ms. position_told c.args.number c.args.text.now (left c.along.result) (left c.pass.result) ms c.here.result c.along.ensures c.pass.ensures c.here.ensures
