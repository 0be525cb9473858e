use Rattle.fx_plain_explain.specs.Explaining.{find_attached}
use Rattle.fx_play_explain.proofs.LawLemmas.{one_answer}
use Rattle.fx_play_explain.proofs.laws.one_step.Goals as goal

pub returns : goal.returns
returns c = λ number path name world one other this that.
    one_answer c.one_explanation.ensures c.matches_name_each_rule_once.ensures number name world (find_attached world path) one other this that
