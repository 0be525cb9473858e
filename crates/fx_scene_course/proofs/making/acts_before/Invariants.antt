-- none of the acts so far is a node's
use Rattle.std.proofs.Common.{◌≡◌, ◌≤◌, ◌+◌, drop, length}
use Rattle.std.specs.List.{prefix_len}
use Rattle.fx_scene_course.specs.Making.{is_other_act}
use Rattle.fx_scene_course.proofs.making.acts_before.Given as goal

abbrev pub invariant-loop-index : goal.invariant-loop-index
invariant-loop-index l =
    (prefix_len is_other_act l.acts ≡ l.index + prefix_len is_other_act (drop l.index l.acts))
    × (l.index ≤ length l.acts)
