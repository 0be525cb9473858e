-- the path to the node tells how deep it stands, or there is none
use Rattle.std.proofs.Common.{◌∙◌, ap}
use Rattle.fx_scene_build.proofs.RoomLemmas.{no_path, room_seen}
use Rattle.fx_stage_model.specs.Graphs.{Graph}
use Rattle.fx_scene_build.proofs.room.room_below.Goals as goal

pub returns-in-Ok : goal.returns-in-Ok
returns-in-Ok c =
    room_seen c.args.stage.now c.tree.result.now c.args.key c.in-Ok.path c.as_slice.result.now c.room_behind.result
    (c.tree.ensures ∙ ap (λ (g : Graph). g.tree) c.graph.ensures) c.in-Ok.ensures.answer c.in-Ok.ensures.ok c.as_slice.ensures.value c.room_behind.ensures

pub returns-in-Err : goal.returns-in-Err
returns-in-Err c =
    no_path c.args.stage.now c.tree.result.now c.args.key c.in-Err.error c.path_refusal.result
    (c.tree.ensures ∙ ap (λ (g : Graph). g.tree) c.graph.ensures) c.in-Err.ensures.answer c.path_refusal.ensures
