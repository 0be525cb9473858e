use Rattle.fx_stage_facts.specs.Drafts.{ReachTo}
use Rattle.fx_stage_facts.proofs.facts.fill.Given as goal

-- what is made so far
abbrev pub invariant-loop-place : goal.invariant-loop-place
invariant-loop-place l = ReachTo l.stage l.keys l.place l.standing l.draft
