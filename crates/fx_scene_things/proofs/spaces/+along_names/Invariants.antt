-- names are left behind each name
use Rattle.std.proofs.Common.{◌+◌, ◌*◌, length}
use Rattle.fx_scene_things.proofs.spaces.+along_names.Given as goal

abbrev pub decreases-along : goal.decreases-along
decreases-along l = 3 * length l.rest.now + 2

abbrev pub decreases-behind : goal.decreases-behind
decreases-behind l = 3 * length l.rest.now + 1

abbrev pub decreases-node_along : goal.decreases-node_along
decreases-node_along l = 3 * length l.path.now
