use Rattle.std.proofs.Common.{subst}
use Rattle.fx_plain_dispatch.specs.Costs.{IsDoneWithin}
use Rattle.fx_plain_dispatch.specs.Settling.{IsSettledWhole}
use Rattle.fx_plain_steps.specs.Courses.{Course}
use Rattle.fx_play_steps.specs.Traces.{course_of}
use Rattle.fx_play_frames.proofs.LineLemmas.{on_ok, told_fresh}
use Rattle.fx_play_frames.proofs.pulses.tell.Goals as goal

pub returns-clause-settled : goal.returns-clause-settled
returns-clause-settled g c =
    let told = c.in_ok-print_told.ensures in
    on_ok c.settle.result c.settle.ensures.settled
    (subst (λ (here : Course). IsDoneWithin (IsSettledWhole c.args.number here (course_of c.settle.new.stage c.settle.new.trace))
    c.args.work.now.evaluated c.settle.new.work.evaluated)
    (told_fresh c.args.stage.now c.clear.new.self c.print_told.new.trace c.args.notices.now c.clear.ensures told.text told.heard told.rest))
