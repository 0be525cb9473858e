use Rattle.fx_doc_runs.proofs.Carried.{instruction_taken}
use Rattle.fx_doc_runs.proofs.modes.Reader.take_instruction.Goals as goal

pub returns-in-Ok-clause-took : goal.returns-in-Ok-clause-took
returns-in-Ok-clause-took c = λ p. instruction_taken c.args.self.now c.in-Instructed.field-0 c.in-Instructed.text c.push_str.new.self c.args.rest.now c.run_ahead.result.0.now c.run_ahead.result.1.now p c.in-Instructed.is c.run_ahead.ensures.run c.in-Ok.ensures.bytes
