-- the scene is the last one, so its frame is the next one
use Rattle.std.proofs.Common.{ℕ, Option, refl, subst, sym}
use Rattle.std.specs.Prelude.{IsTrue}
use Rattle.fx_layout.specs.Layouts.{IsLayout}
use Rattle.fx_plain_frames.specs.Pulses.{scene_of}
use Rattle.fx_pulse_model.specs.Frames.{IsFrame}
use Rattle.fx_pulse_model.specs.Scenes.{looks_of}
use Rattle.fx_play_frames.proofs.RestLemmas.{drawn_again, work_again}
use Rattle.fx_play_frames.proofs.game.Game.frame_again.Goals as goal

pub returns-clause-drawn : goal.returns-clause-drawn
returns-clause-drawn c = λ evaluated.
    let world = c.args.self.now.stage in
    let seen = c.args.self.now.renderer in
    let frame = c.in_ok-frame.frame in
    let rest = c.args.self.now.still c.requires.rests in
    let is = subst IsTrue (sym c.if-not-is_shown.false) refl in
    drawn_again world seen (record { frame = frame; told = c.told_nobody.result }) rest
    (subst (λ (v : Option (ℕ × ℕ)). IsFrame (scene_of world) v frame.width frame.height seen.rects seen.picture)
    c.window.ensures (c.in_ok-frame.ensures.frame (scene_of world) rest.scene))
    c.in_ok-frame.ensures.damage (c.is_shown.ensures.some is) c.in_ok-frame.ensures.width
    c.in_ok-frame.ensures.height (c.is_shown.ensures.drawable is) c.told_nobody.ensures evaluated

pub returns-clause-work : goal.returns-clause-work
returns-clause-work c = λ count.
    let world = c.args.self.now.stage in
    let seen = c.args.self.now.renderer in
    let rest = c.args.self.now.still c.requires.rests in
    work_again world seen c.in_ok-frame.frame count rest
    (subst (λ (v : Option (ℕ × ℕ)). IsLayout (scene_of world).boxes (looks_of (scene_of world)) v seen.kept.layout)
    c.window.ensures (c.in_ok-frame.ensures.placed (scene_of world) rest.scene))
    (c.in_ok-frame.ensures.few (scene_of world) count.styled count.laid rest.scene)
