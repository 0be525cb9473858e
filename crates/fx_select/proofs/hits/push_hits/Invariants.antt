-- the hits among the selectors so far stand behind what was there, and the last answer was right
use Rattle.std.proofs.Common.{◌≡◌, ◌++◌, take}
use Rattle.std.specs.List.{filter_map}
use Rattle.fx_select.specs.Chains.{chain}
use Rattle.fx_select.specs.Hits.{IsRight, hit_of}
use Rattle.fx_select.proofs.hits.push_hits.Given as goal

abbrev pub invariant-loop-selector : goal.invariant-loop-selector
invariant-loop-selector l = record {
  found :
      l.hits.items ≡ l.initial.hits.items ++ filter_map (hit_of l.sheets (chain l.facts l.at)) (take l.selector-index l.listed);
  seen : IsRight (chain l.facts l.at) l.last;
}
