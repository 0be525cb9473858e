-- the line, and then the actions of those who were told
use Rattle.std.proofs.Common.{◌≤◌, ◌+◌, ap, arith, refl, subst}
use Rattle.fx_plain_dispatch.specs.Settling.{IsSettledWhole}
use Rattle.fx_plain_steps.specs.Courses.{Course}
use Rattle.fx_plain_times.specs.Lines.{Passed, time_cost}
use Rattle.fx_play_times.specs.Shown.{clock_of}
use Rattle.fx_play_steps.specs.Traces.{course_of}
use Rattle.fx_pulse.specs.Rendering.{last_frame}
use Rattle.fx_play_frames.proofs.LineLemmas.{on_ok}
use Rattle.fx_play_frames.proofs.game.Game.pass.Goals as goal

pub returns-clause-timed : goal.returns-clause-timed
returns-clause-timed g c =
    let before = c.args.self.now in
    let course = course_of c.settle.new.stage c.settle.new.trace in
    let same = c.in_ok-take.ensures.passed in
    on_ok c.settle.result c.settle.ensures.settled
    (λ settled.
    let own = time_cost c.args.instruction.now (clock_of before.clock) before.stage in
    let first_few : c.take.new.work.evaluated ≤ c.args.work.now.evaluated + own = c.in_ok-take.ensures.few in
    let rest_few : c.settle.new.work.evaluated ≤ c.take.new.work.evaluated + settled.cost = settled.few in
    record {
      cost = own + settled.cost;
      done = record {
        course = course;
        further = settled.cost;
        settled = subst (λ (first : Course). IsSettledWhole c.args.number first course settled.cost)
            (ap (λ (p : Passed). p.course) same) settled.done;
        after = ap (λ (p : Passed). record {
          world = c.settle.new.stage;
          clock = p.clock;
          frames = before.frames;
          last = last_frame before.renderer;
        }) same;
        told_so = refl;
        sum = refl;
      };
      few = omega (arith, first_few, rest_few);
    })
