use Rattle.std.proofs.Common.{◌∙◌, sym}
use Rattle.fx_graph.proofs.FlagLemmas.{any_behind_one, any_behind_four, any_of_none}
use Rattle.fx_graph.proofs.looking.is_one_of.Goals as goal

pub loop-rest-preserved : goal.loop-rest-preserved
loop-rest-preserved c =
    rw c.split_at.ensures.back
    (c.loop-rest.invariant ∙ any_behind_four c.loop-rest.any c.loop-rest.rest.now c.loop-rest-test.true)

pub loop-flag-preserved : goal.loop-flag-preserved
loop-flag-preserved c =
    c.loop-flag.invariant
    ∙ any_behind_one c.loop-flag.any c.loop-rest.rest.now c.loop-flag.flag-index c.loop-flag-test.true

pub returns : goal.returns
returns c =
    sym (c.loop-flag.invariant ∙ any_of_none c.loop-flag.any c.loop-rest.rest.now c.loop-flag.flag-index c.loop-flag-test.false)
