use Rattle.fx_doc.proofs.Answered.{mark_read}
use Rattle.fx_doc.proofs.bytes.without_mark.Goals as goal

pub returns-then-c-eq-MARK-clause-text : goal.returns-then-c-eq-MARK-clause-text
returns-then-c-eq-MARK-clause-text c = mark_read c.in-Some.c c.args.text.now c.chars-rest.result.rest.now c.next.new.self.rest.now c.as_str.result.now c.if-c-eq-MARK.true c.chars-rest.ensures.rest c.in-Some.ensures.steps.0 c.as_str.ensures
