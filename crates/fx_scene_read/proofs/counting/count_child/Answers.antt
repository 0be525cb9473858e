-- there are no more children than pieces
use Rattle.std.proofs.Common.{arith, ◌<◌, length}
use Rattle.std.proofs.lemmas.List.{get_or_default}
use Rattle.fx_scene_read.proofs.RankLemmas.{no_more_than}
use Rattle.fx_scene_read.proofs.counting.count_child.Goals as goal

pub returns-else-rank-before-clause-counted : goal.returns-else-rank-before-clause-counted
returns-else-rank-before-clause-counted c =
    let within : c.args.owner < length c.args.counts.now.items = omega (arith, c.if-owner-len.false, c.len.ensures) in
    absurd (omega (
      arith,
      c.if-rank-before.false,
      c.requires c.args.owner within,
      c.index-rank.ensures,
      get_or_default c.args.counts.now.items c.args.owner 0 c.index-rank.result.now within,
      no_more_than c.args.owner c.args.before.now,
    ))
