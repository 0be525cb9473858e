use Rattle.std.proofs.Common.{◌≡◌, ◌∙◌, ℕ, arith, drop, length, refl, subst, sym, true≢false}
use Rattle.fx_base.specs.declared.keys.NodeKey.{NodeKey}
use Rattle.fx_stage_facts.specs.Drafts.{ReachTo}
use Rattle.fx_stage_facts.proofs.DraftLemmas.{reach_next, reach_same}
use Rattle.fx_stage_facts.proofs.PlaceLemmas.{once_so_far}
use Rattle.fx_stage_facts.proofs.facts.fill.Goals as goal

no_key : NodeKey
no_key = record { slot = 0; birth = 0 }

pub push_node-requires-clause-sure : goal.push_node-requires-clause-sure
unfolding no_key
push_node-requires-clause-sure c = λ s. c.requires.sure s c.loop-place.place no_key c.loop-place-test.true

pub push_node-requires-clause-once : goal.push_node-requires-clause-once
push_node-requires-clause-once c =
    once_so_far c.loop-place.standing.stands.items c.loop-place.standing.stands.items c.args.keys.now
    (drop c.loop-place.place c.args.keys.now) refl c.loop-place.invariant.whole c.requires.once

pub loop-place-preserved : goal.loop-place-preserved
unfolding no_key
loop-place-preserved c =
    reach_next c.args.stage.now c.args.keys.now c.loop-place.place no_key c.loop-place.standing c.push_node.new.standing
    c.loop-place.draft c.push_node.new.draft c.in_ok-put.put c.loop-place-test.true c.if-not-put.false
    c.loop-place.invariant c.in_ok-put.ensures.put

pub returns-then-not-put-clause-reach : goal.returns-then-not-put-clause-reach
unfolding no_key
returns-then-not-put-clause-reach c =
    reach_same c.args.stage.now c.args.keys.now c.loop-place.place no_key c.loop-place.standing
    c.push_node.new.standing c.loop-place.draft c.push_node.new.draft c.in_ok-put.put c.if-not-put.true
    c.loop-place.invariant c.in_ok-put.ensures.put

pub returns-then-not-put-clause-sure : goal.returns-then-not-put-clause-sure
returns-then-not-put-clause-sure c =
    λ s. absurd (true≢false (sym (c.in_ok-put.ensures.sure s) ∙ c.if-not-put.true))

pub returns-clause-reach : goal.returns-clause-reach
returns-clause-reach c =
    let end : c.loop-place.place ≡ length c.args.keys.now =
    omega (arith, c.loop-place.invariant.within, c.loop-place-test.false) in
    subst (λ (n : ℕ). ReachTo c.args.stage.now c.args.keys.now n c.loop-place.standing c.loop-place.draft) end
    c.loop-place.invariant
