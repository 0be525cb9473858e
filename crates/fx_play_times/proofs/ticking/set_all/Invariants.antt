-- the properties so far have their values
use Rattle.std.proofs.Common.{◌≡◌, ◌≤◌, ◌+◌}
use Rattle.fx_plain_times.specs.Ticks.{all_animated, cost_of_sets}
use Rattle.fx_play_steps.specs.Traces.{course_of}
use Rattle.fx_play_times.proofs.ticking.set_all.Given as goal

abbrev pub invariant-loop-set : goal.invariant-loop-set
invariant-loop-set g l =
    (course_of l.stage l.trace ≡ all_animated l.yielded (course_of l.fn.stage l.fn.trace))
    × (l.work.evaluated ≤ l.fn.work.evaluated + cost_of_sets l.yielded l.fn.stage)
    × (l.work ≡ record l.fn.work { evaluated = l.work.evaluated })
