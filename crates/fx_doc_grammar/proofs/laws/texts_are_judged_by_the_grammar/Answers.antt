use Rattle.fx_doc_grammar.proofs.JudgingLemmas.{judging}
use Rattle.fx_doc_grammar.proofs.laws.texts_are_judged_by_the_grammar.Goals as goal

pub returns : goal.returns
returns c = judging
