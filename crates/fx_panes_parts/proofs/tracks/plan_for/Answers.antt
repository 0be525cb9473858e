use Rattle.std.proofs.Common.{map}
use Rattle.fx_panes_parts.proofs.TrackLemmas.{plan_shares}
use Rattle.fx_panes_parts.proofs.tracks.plan_for.Goals as goal

pub returns : goal.returns
returns g c =
    plan_shares (map (g.T.Parted.part_along c.args.axis) c.args.parts.now) c.args.room c.wanted-wanted.result c.given.result
    c.level_for-less.result c.level_for-always.result c.level_for-sometimes.result
    c.wanted-wanted.ensures.value c.given.ensures
    (rw c.saturating_sub.ensures at c.level_for-less.ensures)
    (rw c.saturating_sub-left.ensures at c.level_for-always.ensures)
    (rw (c.saturating_sub-rest.ensures, c.saturating_sub-left.ensures) at c.level_for-sometimes.ensures)
