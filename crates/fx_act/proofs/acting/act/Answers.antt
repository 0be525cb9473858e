use Rattle.std.proofs.Common.{◌≤◌, ◌+◌, arith, refl, subst}
use Rattle.fx_plain_dispatch.specs.Settling.{IsSettledWhole}
use Rattle.fx_play_steps.specs.Traces.{course_of}
use Rattle.fx_act.proofs.RunLemmas.{on_ok}
use Rattle.fx_act.proofs.acting.act.Goals as goal

pub returns-clause-line : goal.returns-clause-line
returns-clause-line g c =
    let first = course_of c.take.new.stage c.take.new.trace in
    let now = course_of c.settle.new.stage c.settle.new.trace in
    let acted = c.in_ok-take.ensures.done in
    on_ok c.settle.result c.settle.ensures.settled
    (λ settled.
    let before : c.take.new.work.evaluated ≤ c.args.work.now.evaluated + acted.cost = acted.few in
    let behind : c.settle.new.work.evaluated ≤ c.take.new.work.evaluated + settled.cost = settled.few in
    record {
      cost = acted.cost + settled.cost;
      done = record {
        first = first;
        own = acted.cost;
        further = settled.cost;
        acted = acted.done;
        settled = subst (λ n. IsSettledWhole n first now settled.cost) c.number_of-number.ensures settled.done;
        sum = refl;
      };
      few = omega (arith, before, behind);
    })
