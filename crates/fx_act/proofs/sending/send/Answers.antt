use Rattle.std.proofs.Common.{sym}
use Rattle.fx_play_steps.specs.Traces.{course_of}
use Rattle.fx_act.proofs.RunLemmas.{on_ok}
use Rattle.fx_act.proofs.SendLemmas.{nothing_sent, something_sent}
use Rattle.fx_act.proofs.sending.send.Goals as goal

pub returns-then-left_out-clause-done : goal.returns-then-left_out-clause-done
returns-then-left_out-clause-done g c =
    nothing_sent c.args.event (course_of c.args.stage.now c.args.trace.now) c.args.work.now.evaluated c.is_left_out-left_out.result
    c.is_left_out-left_out.ensures c.if-left_out.true

pub returns-clause-done : goal.returns-clause-done
returns-clause-done g c =
    on_ok c.go_along.result c.go_along.ensures.done
    (something_sent c.args.event (course_of c.args.stage.now c.args.trace.now) c.is_left_out-left_out.result
    (course_of c.go_along.new.stage c.go_along.new.trace) c.args.work.now.evaluated c.go_along.new.work.evaluated c.is_left_out-left_out.ensures c.if-left_out.false)
