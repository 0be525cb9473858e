use Rattle.std.proofs.lemmas.Result.{IfOk-weaker}
use Rattle.fx_layout_sweeps.proofs.Spreads.{halves_across, halves_down}
use Rattle.fx_layout_sweeps.proofs.placing.rects_of.Goals as goal

pub returns-in-Across-clause-rects : goal.returns-in-Across-clause-rects
returns-in-Across-clause-rects g c =
    IfOk-weaker c.rects_across.result _ _ (λ rects same. halves_across _ _ _ c.args.room rects.items c.in-Across.is same)
    c.rects_across.ensures.rects

pub returns-in-Down-clause-rects : goal.returns-in-Down-clause-rects
returns-in-Down-clause-rects g c =
    IfOk-weaker c.rects_down.result _ _ (λ rects same. halves_down _ _ _ c.args.room rects.items c.in-Down.is same)
    c.rects_down.ensures.rects
