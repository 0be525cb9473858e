use Rattle.std.proofs.Common.{arith}
use Rattle.std.specs.String.{string_bytes}
use Rattle.fx_doc_runs.specs.Views.{head_view}
use Rattle.fx_doc_runs.proofs.Flowing.{plain_all_low, value_taken}
use Rattle.fx_doc_runs.proofs.modes.Valued.take_plain.Goals as goal

pub push_ascii-requires-clause-low : goal.push_ascii-requires-clause-low
push_ascii-requires-clause-low c = plain_all_low c.quote_byte-quote.result c.value_ahead.result.0.now
    c.value_ahead.ensures.run.each

pub returns-clause-took : goal.returns-clause-took
returns-clause-took c = λ h p l.
    value_taken h (head_view c.args.self.now.head) c.args.self.now.position (string_bytes c.args.self.now.key.text)
    c.args.self.now.quote c.quote_byte-quote.result (string_bytes c.args.self.now.value.text) (string_bytes
    c.push_ascii.new.self.text)
    c.args.self.now.value.count c.push_ascii.new.self.count c.args.rest.now c.value_ahead.result.0.now
    c.value_ahead.result.1.now p c.quote_byte-quote.ensures l c.value_ahead.ensures.run
    (omega (arith, c.value_ahead.ensures.short, c.args.self.now.value.short)) c.in_ok-push_ascii.ensures.bytes
    c.in_ok-push_ascii.ensures.count
