use Rattle.std.proofs.Common.{◌≡◌, ◌++◌, take, drop}
use Rattle.fx_share.specs.Levels.{levelled}
use Rattle.fx_share.proofs.give.Given as goal

abbrev pub invariant-loop-i : goal.invariant-loop-i
invariant-loop-i l = take l.i l.out ++ levelled l.level l.more (drop l.i l.caps) ≡ levelled l.level l.fn.more l.caps
