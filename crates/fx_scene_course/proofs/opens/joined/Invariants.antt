-- the names so far, in front and behind
use Rattle.std.proofs.Common.{◌≡◌, ◌++◌, take}
use Rattle.fx_scene_course.proofs.opens.joined.Given as goal

abbrev pub invariant-loop-name : goal.invariant-loop-name
invariant-loop-name l = l.all.items ≡ take l.name-index l.front

abbrev pub invariant-loop-name-2 : goal.invariant-loop-name-2
invariant-loop-name-2 l = l.all.items ≡ l.front ++ take l.name-index l.back
