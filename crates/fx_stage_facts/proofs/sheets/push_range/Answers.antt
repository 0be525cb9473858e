use Rattle.std.proofs.Common.{arith}
use Rattle.fx_stage_facts.proofs.LoopLemmas.{range_next}
use Rattle.fx_stage_facts.proofs.sheets.push_range.Goals as goal

pub loop-place-preserved : goal.loop-place-preserved
loop-place-preserved c = (
  omega (arith, c.loop-place.invariant.0),
  range_next c.args.start c.loop-place.place c.args.places.now.items c.loop-place.places.items c.push.new.self.items
      c.loop-place.invariant.0 c.in_ok-push.ensures.items c.loop-place.invariant.1,
)
