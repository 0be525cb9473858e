-- the constraints so far
use Rattle.std.proofs.Common.{◌≡◌, ◌++◌, take}
use Rattle.fx_scene_elements.specs.Tracks.{lanes_of}
use Rattle.fx_scene_elements.proofs.lanes.add_lanes.Given as goal

abbrev pub invariant-loop-track : goal.invariant-loop-track
invariant-loop-track l =
    l.lanes.items ≡ l.fn.lanes.items ++ lanes_of l.owner l.is_row (take l.track-index l.tracks)
