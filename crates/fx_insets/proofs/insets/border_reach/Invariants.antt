use Rattle.std.proofs.Common.{◌≡◌, None, fold, map}
use Rattle.std.specs.List.{range_with_len}
use Rattle.std.specs.Option.{ForSome}
use Rattle.fx_insets.specs.Insets.{IsReach, border_end, greater}
use Rattle.fx_insets.proofs.insets.border_reach.Given as goal

abbrev pub invariant-loop-i : goal.invariant-loop-i
invariant-loop-i l = (l.best ≡ fold greater None (map (border_end l.side l.look) (range_with_len 0 l.i))) × ForSome l.best IsReach
