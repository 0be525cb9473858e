-- what was drawn is the world's scene, and no node of it stands twice
use Rattle.std.proofs.Common.{List, ap, refl, subst, sym, ◌∙◌}
use Rattle.std.specs.Prelude.{IsTrue}
use Rattle.fx_kinds.specs.declared.facts.BoxFacts.{BoxFacts}
use Rattle.fx_plain_frames.specs.Pulses.{sizes_of}
use Rattle.fx_plain_work.specs.Works.{counted}
use Rattle.fx_pulse_kept.specs.Keeping.{boxes_in}
use Rattle.fx_pulse_model.specs.Scenes.{IsScene}
use Rattle.fx_stage_facts.specs.Publishing.{AreOnce}
use Rattle.fx_play_frames.proofs.DrawnLemmas.{drawn_as}
use Rattle.fx_play_frames.proofs.SizeLemmas.{sized_once}
use Rattle.fx_play_frames.proofs.WorkLemmas.{work_as}
use Rattle.fx_play_frames.proofs.pulses.draw.Goals as goal

pub returns-clause-drawn : goal.returns-clause-drawn
returns-clause-drawn g c = λ world are.
    drawn_as world c.args.facts _ c.args.renderer.now c.pulse.new.self c.in_ok-frame.frame are (c.scene_in-scene.ensures.scene world are)
    c.in_ok-frame.ensures.frame c.in_ok-frame.ensures.damage (c.is_shown.ensures.some (subst IsTrue (sym c.if-not-is_shown.false) refl)) c.in_ok-frame.ensures.width c.in_ok-frame.ensures.height
    (c.is_shown.ensures.drawable (subst IsTrue (sym c.if-not-is_shown.false) refl))

pub returns-clause-kept : goal.returns-clause-kept
returns-clause-kept g c = ap boxes_in c.in_ok-frame.ensures.last ∙ c.scene_in-scene.ensures.boxes

pub returns-clause-once : goal.returns-clause-once
returns-clause-once g c =
    subst (λ (boxes : List BoxFacts). AreOnce (sizes_of boxes c.pulse.new.self.rects)) c.scene_in-scene.ensures.boxes
    (sized_once _ c.pulse.new.self.rects (subst IsScene c.scene.ensures
    (c.in_ok-is_fit.ensures.scene (subst IsTrue (sym c.if-not-branch.false) refl))))

pub returns-clause-work : goal.returns-clause-work
returns-clause-work g c = λ world are.
    work_as world c.args.facts _ c.args.renderer.now c.pulse.new.self c.in_ok-frame.frame
    (counted c.args.work.now.styled c.args.work.now.laid c.args.work.now.painted)
    (counted c.pulse.new.work.styled c.pulse.new.work.laid c.pulse.new.work.painted) are
    (c.scene_in-scene.ensures.scene world are) c.in_ok-frame.ensures.last c.in_ok-frame.ensures.placed
    c.in_ok-frame.ensures.few c.in_ok-frame.ensures.painted
