use Rattle.fx_doc_runs.proofs.Flowing.{white_all_low}
use Rattle.fx_doc_runs.proofs.Resting.{white_front, white_past}
use Rattle.fx_doc_runs.proofs.rests.Rest.past_white.Goals as goal

pub over-requires-clause-low : goal.over-requires-clause-low
over-requires-clause-low c = white_all_low c.in-Some.white.now (white_front c.args.self.text.now c.as_bytes.result.now
    c.in-Some.white.now c.white_length-count.result c.white_length-count.ensures.count c.as_bytes.ensures.value
    c.in-Some.ensures.front)

pub returns-in-Some : goal.returns-in-Some
returns-in-Some c = white_past c.args.self.text.now c.as_bytes.result.now c.in-Some.white.now c.in-Some.left.now
    c.over.result.text.now c.white_length-count.result c.args.self.position c.over.result.position
    c.white_length-count.ensures.count c.as_bytes.ensures.value c.in-Some.ensures.front c.in-Some.ensures.back
    c.over.ensures.text c.over.ensures.position
