use Rattle.std.proofs.Common.{pos}
use Rattle.fx_stage_facts.proofs.PublishLemmas.{pairs_next}
use Rattle.fx_stage_facts.proofs.publishing.pairs_of.Goals as goal

pub loop-size-preserved : goal.loop-size-preserved
loop-size-preserved c =
    pairs_next c.args.stage.now c.args.sizes.now c.loop-size.size-index (record { slot = 0; birth = 0 }, pos 0, pos 0)
    c.loop-size.pairs.items c.push_size.new.pairs.items c.loop-size-test.true c.in_ok-push_size.ensures c.loop-size.invariant
