use Rattle.fx_layout.proofs.Agree.{anew_is}
use Rattle.fx_layout.proofs.laws.anew_is_layout.Goals as goal

pub returns : goal.returns
returns c = λ nodes looks window listed old new all update. anew_is nodes looks window listed old new all update
