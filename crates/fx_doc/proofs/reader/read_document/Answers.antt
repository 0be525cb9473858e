use Rattle.std.proofs.Common.{Err}
use Rattle.std.specs.Str.{chars}
use Rattle.fx_doc_runs.specs.declared.document.DocError.TheVariants.{NotUtf8}
use Rattle.fx_doc.proofs.Answered.{on_bytes, read_by, within_by, exact_by, refused_by, fault_by, judged_by}
use Rattle.fx_doc.proofs.reader.read_document.Goals as goal

pub returns-in-Ok-clause-read : goal.returns-in-Ok-clause-read
returns-in-Ok-clause-read c = read_by c.args.bytes.now c.read_text.result (on_bytes c.args.bytes.now (chars c.in-Ok.text.now) c.read_text.result c.in-Ok.ensures.text c.in-Ok.ensures.utf8 c.read_text.ensures)

pub returns-in-Ok-clause-within : goal.returns-in-Ok-clause-within
returns-in-Ok-clause-within c = within_by c.args.bytes.now c.read_text.result (on_bytes c.args.bytes.now (chars c.in-Ok.text.now) c.read_text.result c.in-Ok.ensures.text c.in-Ok.ensures.utf8 c.read_text.ensures)

pub returns-in-Ok-clause-exact : goal.returns-in-Ok-clause-exact
returns-in-Ok-clause-exact c = exact_by c.args.bytes.now c.read_text.result (on_bytes c.args.bytes.now (chars c.in-Ok.text.now) c.read_text.result c.in-Ok.ensures.text c.in-Ok.ensures.utf8 c.read_text.ensures)

pub returns-in-Ok-clause-fault : goal.returns-in-Ok-clause-fault
returns-in-Ok-clause-fault c = fault_by c.args.bytes.now c.read_text.result (on_bytes c.args.bytes.now (chars c.in-Ok.text.now) c.read_text.result c.in-Ok.ensures.text c.in-Ok.ensures.utf8 c.read_text.ensures)

pub returns-in-Ok-clause-refused : goal.returns-in-Ok-clause-refused
returns-in-Ok-clause-refused c = refused_by c.args.bytes.now c.read_text.result (on_bytes c.args.bytes.now (chars c.in-Ok.text.now) c.read_text.result c.in-Ok.ensures.text c.in-Ok.ensures.utf8 c.read_text.ensures)

pub returns-in-Ok-clause-judged : goal.returns-in-Ok-clause-judged
returns-in-Ok-clause-judged c = judged_by c.args.bytes.now c.read_text.result (on_bytes c.args.bytes.now (chars c.in-Ok.text.now) c.read_text.result c.in-Ok.ensures.text c.in-Ok.ensures.utf8 c.read_text.ensures)

pub returns-in-Err-clause-judged : goal.returns-in-Err-clause-judged
returns-in-Err-clause-judged c = judged_by c.args.bytes.now (Err (NotUtf8 c.in-Err.valid)) c.in-Err.ensures.bad
