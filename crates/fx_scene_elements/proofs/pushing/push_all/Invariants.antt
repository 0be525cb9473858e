-- the deeds so far
use Rattle.std.proofs.Common.{◌≡◌, ◌++◌}
use Rattle.fx_scene_elements.specs.Added.{acts_at}
use Rattle.fx_scene_elements.proofs.pushing.push_all.Given as goal

abbrev pub invariant-loop-deed : goal.invariant-loop-deed
invariant-loop-deed l = l.acts.items ≡ l.fn.acts.items ++ acts_at l.place l.yielded
