use Rattle.fx_panes_parts.proofs.TrackLemmas.{whole_ends}
use Rattle.fx_panes_parts.proofs.tracks.Plan.whole.Goals as goal

pub returns-clause-value : goal.returns-clause-value
returns-clause-value g c =
    whole_ends c.loop-part.self (g.T.Parted.part_along c.args.axis) c.args.parts.now _ _ _ c.loop-part-test.false
    c.loop-part.invariant.same
