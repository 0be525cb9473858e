-- what is found so far, and the flags that are left
use Rattle.std.proofs.Common.{◌≡◌, ◌||◌, drop, length}
use Rattle.std.specs.List.{list_any}
use Rattle.fx_graph.proofs.looking.is_one_of.Given as goal

abbrev pub invariant-loop-rest : goal.invariant-loop-rest
invariant-loop-rest l = list_any (λ flag. flag) l.flags ≡ (l.any || list_any (λ flag. flag) l.rest)

abbrev pub decreases-loop-rest : goal.decreases-loop-rest
decreases-loop-rest l = length l.rest

abbrev pub invariant-loop-flag : goal.invariant-loop-flag
invariant-loop-flag l = list_any (λ flag. flag) l.flags ≡ (l.any || list_any (λ flag. flag) (drop l.flag-index l.flag-items))
