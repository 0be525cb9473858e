use Rattle.std.proofs.Common.{◌≡◌, ◌++◌, drop, map}
use Rattle.fx_anim.specs.Line.{sets_of}
use Rattle.fx_anim.specs.Shown.{line_of}
use Rattle.fx_anim.proofs.timelines.sets_of.Given as goal

-- the sets so far and those to come are all
abbrev pub invariant-loop-line : goal.invariant-loop-line
invariant-loop-line l =
    l.sets.items ++ sets_of l.ms (map line_of (drop l.line-index l.lines)) ≡ sets_of l.ms (map line_of l.lines)
