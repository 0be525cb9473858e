-- what runs the lines that are left runs all of them
use Rattle.std.proofs.Common.{◌≡◌, drop, map}
use Rattle.fx_plain_dispatch.specs.Running.{AreRun}
use Rattle.fx_play_steps.specs.Traces.{course_of}
use Rattle.fx_script_commands.specs.Requests.{line_view}
use Rattle.fx_act.proofs.RunLemmas.{LeadsTo}
use Rattle.fx_act.proofs.running.run_lines.Given as goal

abbrev pub invariant-loop-line : goal.invariant-loop-line
invariant-loop-line g l =
    LeadsTo AreRun (map line_view (drop l.line-index l.lines)) (course_of l.stage l.trace) l.work.evaluated
    (map line_view l.lines) (course_of l.fn.stage l.fn.trace) l.fn.work.evaluated
    × (l.work ≡ record l.fn.work { evaluated = l.work.evaluated })
