use Rattle.std.proofs.Common.{◌∙◌}
use Rattle.fx_explain.proofs.StandingLemmas.{cut_is}
use Rattle.fx_explain.proofs.cuts.cut_of.Goals as goal

pub returns : goal.returns
returns c =
    c.cut_between.ensures
    ∙ cut_is c.args.matched.now c.args.winner c.args.loser c.standing_of.result c.standing_of-2.result
    c.standing_of.ensures c.standing_of-2.ensures
