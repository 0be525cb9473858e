use Rattle.std.proofs.Common.{◌≡◌, ◌++◌, drop}
use Rattle.std.specs.List.{filter_map}
use Rattle.fx_anim.specs.Line.{set_at}
use Rattle.fx_anim.proofs.timeline.push_at.Given as goal

-- the sets so far and those to come are all
abbrev pub invariant-loop-name : goal.invariant-loop-name
invariant-loop-name l =
    l.sets.items ++ filter_map (set_at l.frames l.place) (drop l.name-index l.targets)
    ≡ l.fn.sets.items ++ filter_map (set_at l.frames l.place) l.targets
