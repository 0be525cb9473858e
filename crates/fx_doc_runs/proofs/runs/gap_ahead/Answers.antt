use Rattle.fx_doc_runs.proofs.Flowing.{gap_is}
use Rattle.fx_doc_runs.proofs.runs.gap_ahead.Goals as goal

pub returns-in-Some : goal.returns-in-Some
returns-in-Some c = gap_is c.args.text.now c.as_bytes.result.now c.in-Some.parts.0.now c.in-Some.parts.1.now c.gap_length-count.result c.gap_length-count.ensures.count c.as_bytes.ensures.value c.in-Some.ensures.front c.in-Some.ensures.back
