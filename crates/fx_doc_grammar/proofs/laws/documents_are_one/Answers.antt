use Rattle.fx_doc_grammar.proofs.Written.{one_document}
use Rattle.fx_doc_grammar.proofs.laws.documents_are_one.Goals as goal

pub returns : goal.returns
returns c = one_document
