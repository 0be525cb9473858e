use Rattle.std.proofs.Common.{◌≡◌, take}
use Rattle.fx_stage_facts.specs.Publishing.{pairs_of}
use Rattle.fx_stage_facts.specs.Staying.{differing}
use Rattle.fx_stage_facts.proofs.publishing.pairs_of.Given as goal

-- the sizes so far, but for those that stay
abbrev pub invariant-loop-size : goal.invariant-loop-size
invariant-loop-size l = l.pairs.items ≡ differing l.stage.store (pairs_of l.stage (take l.size-index l.sizes))
