use Rattle.fx_doc_runs.specs.Reached.{TookFlat}
use Rattle.fx_doc_runs.specs.Views.{view}
use Rattle.fx_doc_runs.specs.declared.modes.Mode.TheVariants as v
use Rattle.fx_doc_runs.proofs.Carried.{comment_taken, turned}
use Rattle.fx_doc_runs.proofs.Signing.{ended_taken}
use Rattle.fx_doc_runs.proofs.modes.Reader.take_comment.Goals as goal

pub returns-in-Some : goal.returns-in-Some
returns-in-Some c = λ p. turned (TookFlat c.args.rest.now p (view c.args.self.now) c.in-Some.behind.now)
    c.args.self.now.held v.Inside c.turn.new.self c.turn.ensures
    (ended_taken c.args.self.now c.args.rest.now c.run_ahead.result.0.now c.run_ahead.result.1.now
    c.in-Some.behind.now p c.requires c.run_ahead.ensures.run c.in-Some.ensures)

pub returns-in-None : goal.returns-in-None
returns-in-None c = λ p. comment_taken c.args.self.now c.args.rest.now c.run_ahead.result.0.now
    c.run_ahead.result.1.now p c.requires c.run_ahead.ensures.run
