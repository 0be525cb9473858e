-- the rules so far stand behind what was there
use Rattle.std.proofs.Common.{◌≡◌, ◌++◌, take}
use Rattle.fx_select.specs.Hits.{own_hits_in}
use Rattle.fx_select.proofs.hits.push_rule_hits.Given as goal

abbrev pub invariant-loop-place : goal.invariant-loop-place
invariant-loop-place l = l.hits.items ≡ l.initial.hits.items ++ own_hits_in l.own l.origin (take l.place l.rules)
