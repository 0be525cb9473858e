use Rattle.fx_doc_runs.proofs.Keying.{key_is}
use Rattle.fx_doc_runs.proofs.keys.key_ahead.Goals as goal

pub returns : goal.returns
returns c = key_is c.args.text.now c.in_ok-name.name.now c.in_ok-name.rest.now c.gap_ahead.result.0.now c.gap_ahead.result.1.now c.in_ok-rest.rest.now c.gap_ahead-2.result.0.now c.gap_ahead-2.result.1.now c.in_ok-quote.behind.now c.in_ok-quote.quote
    c.in_ok-name.ensures c.gap_ahead.ensures c.in_ok-rest.ensures.some c.gap_ahead-2.ensures c.in_ok-quote.ensures.some
