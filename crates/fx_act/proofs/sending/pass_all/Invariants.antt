-- what passes by the nodes that are left passes by all of them
use Rattle.std.proofs.Common.{◌≡◌, drop, map}
use Rattle.fx_base.specs.declared.keys.NodeKey.{NodeKey}
use Rattle.fx_plain_dispatch.specs.Sending.{ArePassed}
use Rattle.fx_play_steps.specs.Traces.{course_of}
use Rattle.fx_act.proofs.RunLemmas.{LeadsTo}
use Rattle.fx_act.proofs.sending.pass_all.Given as goal

abbrev pub invariant-loop-key : goal.invariant-loop-key
invariant-loop-key g l =
    LeadsTo (ArePassed l.fn.on) (map (λ (key : NodeKey). (l.fn.phase, key)) (drop l.key-index l.nodes))
    (course_of l.stage l.trace) l.work.evaluated (map (λ (key : NodeKey). (l.fn.phase, key)) l.nodes)
    (course_of l.fn.stage l.fn.trace) l.fn.work.evaluated
    × (l.work ≡ record l.fn.work { evaluated = l.work.evaluated })
