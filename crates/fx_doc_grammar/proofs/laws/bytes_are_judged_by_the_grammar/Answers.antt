use Rattle.fx_doc_grammar.proofs.JudgementLemmas.{judgement_is, one_judgement}
use Rattle.fx_doc_grammar.proofs.laws.bytes_are_judged_by_the_grammar.Goals as goal

pub returns-clause-is : goal.returns-clause-is
returns-clause-is c = judgement_is

pub returns-clause-alone : goal.returns-clause-alone
returns-clause-alone c = one_judgement
