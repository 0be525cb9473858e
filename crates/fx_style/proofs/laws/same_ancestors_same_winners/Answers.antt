use Rattle.std.proofs.Common.{ap}
use Rattle.fx_style.specs.Rules.{winner_of}
use Rattle.fx_style.proofs.laws.same_ancestors_same_winners.Goals as goal

pub returns : goal.returns
returns c = λ sheets old new before after i j inside within same name. ap (λ nodes. winner_of sheets nodes name) same
