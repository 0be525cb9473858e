use Rattle.fx_stage_parts.proofs.PushingLemmas.{range_pushed}
use Rattle.fx_stage_parts.proofs.dropping.push_range.Goals as goal

pub loop-place-preserved : goal.loop-place-preserved
loop-place-preserved c =
    range_pushed c.args.first c.loop-place.place c.args.names.now.items c.loop-place.names.items c.push.new.self.items
    c.in_ok-push.ensures.items c.loop-place.invariant
