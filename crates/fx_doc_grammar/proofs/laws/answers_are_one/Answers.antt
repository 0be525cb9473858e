use Rattle.fx_doc_grammar.proofs.Verdicts.{one_verdict}
use Rattle.fx_doc_grammar.proofs.laws.answers_are_one.Goals as goal

pub returns : goal.returns
returns c = one_verdict
