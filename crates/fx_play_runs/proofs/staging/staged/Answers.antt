-- a scene that is raised, or the first fault of what it asks for
use Rattle.std.proofs.Common.{refl, subst, sym}
use Rattle.fx_play_frames.specs.Games.{game_of}
use Rattle.fx_scene_plan.specs.Plans.{standing_of}
use Rattle.fx_stage_model.specs.World.{IsUnwatched}
use Rattle.fx_play_runs.proofs.StagingLemmas.{not_raised, raised}
use Rattle.fx_play_runs.proofs.staging.staged.Goals as goal

pub returns-in_err-raise-clause-staged : goal.returns-in_err-raise-clause-staged
returns-in_err-raise-clause-staged g c =
    not_raised c.args.window c.args.tasks.items c.new-stage.result c.raise.new.stage c.in_err-raise.field-0.0
    c.from_residual.result c.new-stage.ensures c.in_err-raise.ensures.raised c.from_residual.ensures.1

pub returns-clause-staged : goal.returns-clause-staged
returns-clause-staged g c =
    raised c.args.window c.args.tasks.items c.new-stage.result
    (standing_of c.raise.new.stage c.in_ok-raise.field-0.items) (game_of c.game_in.result) c.new-stage.ensures
    c.in_ok-raise.ensures.raised c.game_in.ensures.game

pub returns-clause-quiet : goal.returns-clause-quiet
returns-clause-quiet g c =
    (c.in_ok-raise.ensures.quiet
    (subst IsUnwatched (sym c.new-stage.ensures) (record { pairs = refl; listeners = refl }))).0
