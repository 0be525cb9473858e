use Rattle.fx_cascade.proofs.LawLemmas.{one-best}
use Rattle.fx_style.specs.Rules.{matching_nodes}
use Rattle.fx_style.proofs.OnceLemmas.{once_named}
use Rattle.fx_style.proofs.laws.one_winner.Goals as goal

pub returns : goal.returns
returns c = λ sheets nodes codes name one other.
    one-best sheets (matching_nodes sheets nodes) codes name one other (once_named sheets nodes)
