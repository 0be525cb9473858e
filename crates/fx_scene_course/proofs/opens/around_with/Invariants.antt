-- the names so far
use Rattle.std.proofs.Common.{◌≡◌, take}
use Rattle.fx_scene_course.proofs.opens.around_with.Given as goal

abbrev pub invariant-loop-file : goal.invariant-loop-file
invariant-loop-file l = l.names.items ≡ take l.file-index l.around
