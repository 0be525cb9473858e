-- the world's scene was drawn, and its sizes were published
use Rattle.std.proofs.Common.{ap, subst, sym, ◌∙◌}
use Rattle.fx_base.specs.declared.work.Work.{Work}
use Rattle.fx_plain_work.specs.Works.{Counted, counted}
use Rattle.fx_pulse.specs.Rendering.{Rendering}
use Rattle.fx_pulse_kept.specs.Keeping.{Keeping, boxes_in}
use Rattle.fx_stage_facts.specs.declared.facts.Facts.{Facts}
use Rattle.fx_play_frames.specs.Drawn.{IsDrawWork, IsDrawnAs}
use Rattle.fx_play_frames.proofs.DrawnLemmas.{drawn_whole, facts_boxes}
use Rattle.fx_play_frames.proofs.RestLemmas.{rests_behind}
use Rattle.fx_play_frames.proofs.pulses.drawn.Goals as goal

pub returns-clause-drawn : goal.returns-clause-drawn
returns-clause-drawn g c =
    drawn_whole c.args.stage.now c.refresh_facts.new.stage c.publish_sizes.new.stage c.refresh_facts.new.facts c.args.renderer.now
    c.draw.new.renderer (record { frame = c.in_ok-frame.frame; told = c.in_ok-told.told }) c.boxes.result.now c.rects.result.now c.in_ok-refresh_facts.ensures.facts
    c.in_ok-refresh_facts.ensures.ok (subst (λ (r : Rendering). IsDrawnAs c.args.stage.now r c.draw.new.renderer c.in_ok-frame.frame) c.take_spare.ensures
    (c.in_ok-frame.ensures.drawn c.args.stage.now c.in_ok-refresh_facts.ensures.facts))
    (c.boxes.ensures ∙ (ap (λ (k : Keeping). boxes_in k.last) c.kept.ensures ∙ c.in_ok-frame.ensures.kept)) c.rects.ensures c.in_ok-told.ensures.published.0
    c.in_ok-told.ensures.published.1 c.args.work.now.evaluated c.refresh_facts.new.work.evaluated c.draw.new.work.evaluated
    c.publish_sizes.new.work.evaluated c.in_ok-refresh_facts.ensures.cost c.in_ok-frame.ensures.evaluated c.in_ok-told.ensures.few

pub returns-clause-work : goal.returns-clause-work
returns-clause-work g c =
    let count : Work g.row.L.Denot → Counted = λ w. counted w.styled w.laid w.painted in
    let made = c.in_ok-frame.frame in
    subst (λ (n : Counted). IsDrawWork c.args.stage.now c.args.renderer.now c.draw.new.renderer made
    (count c.args.work.now) n) (sym (ap count c.in_ok-told.ensures.others))
    (subst (λ (n : Counted). IsDrawWork c.args.stage.now c.args.renderer.now c.draw.new.renderer made n
    (count c.draw.new.work)) (ap count c.in_ok-refresh_facts.ensures.others)
    (subst (λ (r : Rendering). IsDrawWork c.args.stage.now r c.draw.new.renderer made
    (count c.refresh_facts.new.work) (count c.draw.new.work)) c.take_spare.ensures
    (c.in_ok-frame.ensures.work c.args.stage.now c.in_ok-refresh_facts.ensures.facts)))

pub returns-clause-still : goal.returns-clause-still
returns-clause-still g c = λ old.
    let facts = c.in_ok-refresh_facts.ensures.facts in
    rests_behind c.args.stage.now c.refresh_facts.new.stage c.publish_sizes.new.stage c.draw.new.renderer
    c.in_ok-frame.frame.width c.in_ok-frame.frame.height c.boxes.result.now c.rects.result.now
    c.in_ok-refresh_facts.ensures.ok (c.in_ok-told.ensures.still old)
    (c.boxes.ensures
    ∙ (ap (λ (k : Keeping). boxes_in k.last) c.kept.ensures
    ∙ (c.in_ok-frame.ensures.kept ∙ (ap (λ (f : Facts). f.boxes) facts ∙ facts_boxes c.args.stage.now))))
    c.rects.ensures (c.in_ok-frame.ensures.work c.args.stage.now facts).scene c.in_ok-frame.ensures.width
    c.in_ok-frame.ensures.height

pub returns-clause-quiet : goal.returns-clause-quiet
returns-clause-quiet g c = λ old. c.in_ok-told.ensures.published.1 ∙ (c.in_ok-told.ensures.still old).quiet
