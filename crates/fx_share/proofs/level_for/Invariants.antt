use Rattle.std.proofs.Common.{◌≡◌, ◌+◌, ◌-◌, ◌<◌, ◌≤◌, ◌⊎◌}
use Rattle.fx_share.specs.declared.TheConstants.{MOST}
use Rattle.fx_share.specs.Levels.{filled}
use Rattle.fx_share.proofs.level_for.Given as goal

abbrev pub invariant-loop-low : goal.invariant-loop-low
invariant-loop-low l =
    record {
      order : l.low ≤ l.high;
      most : l.high ≤ MOST;
      enough : filled l.low l.caps ≤ l.total;
      greatest : (l.high ≡ MOST) ⊎ (l.total < filled (l.high + 1) l.caps);
    }

abbrev pub decreases-loop-low : goal.decreases-loop-low
decreases-loop-low l = l.high - l.low
