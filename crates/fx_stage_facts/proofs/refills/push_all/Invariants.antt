use Rattle.std.proofs.Common.{◌≡◌, ◌++◌, take}
use Rattle.fx_stage_facts.proofs.refills.push_all.Given as goal

-- the items so far
abbrev pub invariant-loop-item : goal.invariant-loop-item
invariant-loop-item g l = l.refill ≡ l.fn.refill ++ take l.item-index l.items
