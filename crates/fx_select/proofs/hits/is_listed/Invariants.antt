-- the nodes that were passed don't list the sheet
use Rattle.std.proofs.Common.{◌≡◌, ◌<◌, ℕ, suc, length}
use Rattle.std.specs.Option.{option_map_or, ForSome}
use Rattle.std.specs.List.{list_any}
use Rattle.fx_select.specs.Chains.{chain, upward}
use Rattle.fx_select.specs.Hits.{lists_sheet}
use Rattle.fx_select.proofs.hits.is_listed.Given as goal

abbrev pub invariant-loop-above : goal.invariant-loop-above
invariant-loop-above l = record {
  there : ForSome l.above (λ (p : ℕ). p < length l.facts);
  passed : list_any (lists_sheet l.sheet) (upward l.facts l.above) ≡ list_any (lists_sheet l.sheet) (chain l.facts l.at);
}

abbrev pub decreases-loop-above : goal.decreases-loop-above
decreases-loop-above l = option_map_or suc l.above 0
