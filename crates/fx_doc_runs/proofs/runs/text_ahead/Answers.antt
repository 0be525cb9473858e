use Rattle.std.proofs.Common.{arith}
use Rattle.fx_doc_drafts.specs.Ahead.{is_text}
use Rattle.fx_doc_runs.proofs.Flowing.{run_is}
use Rattle.fx_doc_runs.proofs.runs.text_ahead.Goals as goal

pub returns-in-Some-clause-run : goal.returns-in-Some-clause-run
returns-in-Some-clause-run c = run_is is_text c.args.text.now c.as_bytes.result.now c.in-Some.parts.0.now
    c.in-Some.parts.1.now c.text_length.result c.min-count.result
    c.text_length.ensures.count c.as_bytes.ensures.value (grind (arith, c.min-count.ensures)) c.in-Some.ensures.front
    c.in-Some.ensures.back
