-- what was passed stands there, and what is left stands above
use Rattle.std.proofs.Common.{◌≡◌, ◌<◌, ◌++◌, ℕ, suc, length}
use Rattle.std.specs.Option.{option_map_or, ForSome}
use Rattle.fx_select.specs.Chains.{chain, upward}
use Rattle.fx_plain_explain.specs.Explaining.{listed_by}
use Rattle.fx_play_explain.proofs.matching.push_listed.Given as goal

abbrev pub invariant-loop-above : goal.invariant-loop-above
invariant-loop-above l = record {
  there : ForSome l.above (λ (p : ℕ). p < length l.nodes);
  passed : l.seen.items ++ listed_by (upward l.nodes l.above) ≡ l.fn.seen.items ++ listed_by (chain l.nodes l.at);
}

abbrev pub decreases-loop-above : goal.decreases-loop-above
decreases-loop-above l = option_map_or suc l.above 0
