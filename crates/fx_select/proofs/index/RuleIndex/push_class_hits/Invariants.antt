-- the hits under the classes so far stand behind what was there, and the last answer was right
use Rattle.std.proofs.Common.{◌≡◌, ◌++◌, map, take}
use Rattle.std.specs.List.{filter_map, flat_map}
use Rattle.fx_select.specs.Chains.{chain}
use Rattle.fx_select.specs.Hits.{IsRight, hit_of}
use Rattle.fx_select.specs.Keys.{ByClass}
use Rattle.fx_select.specs.Listing.{listed}
use Rattle.fx_select.proofs.index.RuleIndex.push_class_hits.Given as goal

abbrev pub invariant-loop-class : goal.invariant-loop-class
invariant-loop-class l = record {
  found :
      l.hits.items ≡ l.initial.hits.items
      ++ filter_map (hit_of l.sheets (chain l.facts l.at)) (flat_map (listed l.self) (map ByClass (take l.class-index l.classes)));
  seen : IsRight (chain l.facts l.at) l.last;
}
