-- there is no rectangle more
use Rattle.std.proofs.Common.{◌++◌, ◌∙◌, append-nil, ap, arith, sym}
use Rattle.fx_play_frames.proofs.SizeLemmas.{none_left}
use Rattle.fx_play_frames.proofs.scenes.sizes_of.Goals as goal

pub returns-then-place-rects : goal.returns-then-place-rects
returns-then-place-rects c =
    sym (append-nil c.loop-place.sizes.items)
    ∙ (ap (λ rest. c.loop-place.sizes.items ++ rest)
    (sym (none_left c.loop-place.place c.args.boxes.now c.args.rects.now (omega (arith, c.if-place-rects.true))))
    ∙ c.loop-place.invariant)
