-- A pulse has one outcome, since its scene has one frame, and all else is told by equations.
use Rattle.std.proofs.Common.{◌≡◌, ◌∙◌, ◌+◌, List, Some, ap, sym}
use Rattle.fx_base.specs.declared.geometry.Rect.{Rect}
use Rattle.fx_plain_explain.specs.Facts.{box_facts, look_cost, looked, published, sized}
use Rattle.fx_pulse_model.specs.Frames.{frame_damage}
use Rattle.fx_pulse_model.proofs.FrameLemmas.{one_frame}
use Rattle.fx_plain_frames.specs.Laws.{OnePulse}
use Rattle.fx_plain_frames.specs.Pulses.{scene_of, sizes_of}

pub one_pulse : OnePulse
one_pulse before one other first second cost more scene left right =
    let a = left.drawn in
    let b = right.drawn in
    let world = before.world in
    let f = first.frame in
    let g = second.frame in
    let same = one_frame (scene_of world) world.window f.width f.height g.width g.height a.rects b.rects f.picture
    g.picture scene a.shown b.shown in
    let frame : f ≡ g =
    λ i. record { width = same.0 i; height = same.1.0 i; picture = same.1.1.1 i } in
    let rects : a.rects ≡ b.rects = same.1.1.0 in
    let world_is : one.world ≡ other.world =
    a.published
    ∙ ((λ i.
    published ((frame i).width, (frame i).height) (sizes_of (box_facts world) (rects i)) (looked world))
    ∙ sym b.published) in
    let last : one.last ≡ other.last = a.last_one ∙ (ap Some frame ∙ sym b.last_one) in
    let clock = left.clock ∙ sym right.clock in
    let frames = left.count ∙ sym right.count in
    let damage : first.damage ≡ second.damage =
    a.damage
    ∙ ((λ i. frame_damage before.last (frame i).picture (frame i).width (frame i).height) ∙ sym b.damage) in
    let notices : first.notices ≡ second.notices =
    a.notices ∙ (ap (λ (rs : List Rect). (sized (sizes_of (box_facts world) rs) (looked world)).notices) rects
    ∙ sym b.notices) in
    let sum : cost ≡ more =
    a.sum
    ∙ (ap (λ (rs : List Rect). look_cost world + (sized (sizes_of (box_facts world) rs) (looked world)).cost) rects
    ∙ sym b.sum) in (
      λ i. record { world = world_is i; clock = clock i; frames = frames i; last = last i },
      (λ i. record { frame = frame i; damage = damage i; notices = notices i }, sum),
    )
