-- a step that is made evaluates nothing where nothing is watched
use Rattle.std.proofs.Common.{Ok}
use Rattle.fx_scene_build.proofs.QuietLemmas.{even_so, step_quiet}
use Rattle.fx_scene_build.proofs.building.take_step.Goals as goal

pub returns-clause-quiet : goal.returns-clause-quiet
returns-clause-quiet g c = λ is.
    let slot = c.in_ok-made.ensures.built.0 in
    even_so c.keep.result
    (step_quiet slot c.in_ok-step.step c.args.stage.now c.build.new.self c.args.work.now.evaluated c.build.new.work.evaluated _
    (Ok c.in_ok-made.made) is c.in_ok-made.ensures.built.1 (c.in_ok-made.ensures.few slot))
