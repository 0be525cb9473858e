-- the reader's answer is the judgement, and each judgement has its document or its fault
use Rattle.std.proofs.Common.{ap}
use Rattle.fx_doc_grammar.specs.Judgements.{judgement}
use Rattle.fx_scene_load.specs.Documents.{document_of, read_by_judgement}
use Rattle.fx_scene_load.proofs.documents.document_of.Goals as goal

pub returns-in-Ok-clause-says : goal.returns-in-Ok-clause-says
unfolding document_of
returns-in-Ok-clause-says c = ap (read_by_judgement c.args.name.now c.args.bytes.now) c.in-Ok.ensures.judged

pub returns-in-Err-clause-says : goal.returns-in-Err-clause-says
unfolding document_of
returns-in-Err-clause-says c = c.refused.ensures.says (judgement c.args.bytes.now) c.in-Err.ensures.judged
