use Rattle.std.proofs.Common.{◌-◌, map, ap, ◌∙◌}
use Rattle.fx_panes_parts.specs.Parts.{rooms}
use Rattle.fx_panes_parts.proofs.ShareLemmas.{share_given, share_of_none}
use Rattle.fx_panes_parts.proofs.levels.level_for.Goals as goal

pub returns-then-total-eq0 : goal.returns-then-total-eq0
returns-then-total-eq0 g c =
    share_of_none c.args.total (rooms c.args.room (map (g.T.Parted.part_along c.args.axis) c.args.parts.now)) c.if-total-eq0.true

pub returns : goal.returns
returns g c =
    share_given c.args.total c.level_of-level.result c.from.result c.saturating_sub.result
    (rooms c.args.room (map (g.T.Parted.part_along c.args.axis) c.args.parts.now))
    c.requires c.level_of-level.ensures.value c.from.ensures
    (c.saturating_sub.ensures ∙ ap (λ n. c.args.total - n) c.taken.ensures)
