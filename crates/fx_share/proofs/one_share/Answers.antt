use Rattle.fx_share.proofs.Levels.{some_share}
use Rattle.fx_share.proofs.Parts.{one_share}
use Rattle.fx_share.proofs.one_share.Goals as goal

pub returns-clause-some : goal.returns-clause-some
returns-clause-some c = some_share

pub returns-clause-one : goal.returns-clause-one
returns-clause-one c = one_share
