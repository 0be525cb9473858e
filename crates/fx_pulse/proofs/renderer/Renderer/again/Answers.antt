-- the last frame is that of the last scene, and against itself nothing is damaged
use Rattle.std.proofs.Common.{refl, sym, subst, ◌∙◌, ◌≡◌, true}
use Rattle.std.specs.Prelude.{IsTrue}
use Rattle.fx_canvas.specs.Surfaces.{is_size}
use Rattle.fx_pulse_model.specs.Frames.{IsFrame, frame_damage}
use Rattle.fx_pulse.specs.Rendering.{IsDrawn, last_frame, surface_of}
use Rattle.fx_pulse.proofs.CurrentLemmas.{no_work, undamaged}
use Rattle.fx_pulse.proofs.renderer.Renderer.again.Goals as goal

pub returns-clause-frame : goal.returns-clause-frame
returns-clause-frame c = λ scene last.
    let r = c.args.self.now in
    let w = (surface_of r.canvas).width in
    let high = c.still_frame.result.height in
    let drawn : IsDrawn r scene c.args.window =
    c.is_drawn_in.ensures (subst IsTrue (sym c.if-not-is_drawn_in.false) refl) scene last in
    subst (λ n. IsFrame scene c.args.window n high r.rects r.picture) (sym c.still_frame.ensures.width)
    (subst (λ n. IsFrame scene c.args.window w n r.rects r.picture) (sym c.still_frame.ensures.height) drawn.frame)

pub returns-clause-placed : goal.returns-clause-placed
returns-clause-placed c = λ scene last.
    (c.is_drawn_in.ensures (subst IsTrue (sym c.if-not-is_drawn_in.false) refl) scene last).placed

pub returns-clause-damage : goal.returns-clause-damage
returns-clause-damage c = λ sized.
    let r = c.args.self.now in
    let w = (surface_of r.canvas).width in
    let h = (surface_of r.canvas).height in
    let frame = c.still_frame.result in
    let own : is_size w h ≡ true =
    subst (λ n. is_size n h ≡ true) c.still_frame.ensures.width
    (subst (λ n. is_size frame.width n ≡ true) c.still_frame.ensures.height sized) in
    subst (λ n. frame.damage.items ≡ frame_damage (last_frame r) r.picture n frame.height)
    (sym c.still_frame.ensures.width)
    (subst (λ n. frame.damage.items ≡ frame_damage (last_frame r) r.picture w n)
    (sym c.still_frame.ensures.height)
    (c.still_frame.ensures.damage ∙ undamaged r own))

pub returns-clause-width : goal.returns-clause-width
returns-clause-width c = sym c.still_frame.ensures.width

pub returns-clause-height : goal.returns-clause-height
returns-clause-height c = sym c.still_frame.ensures.height

pub returns-clause-few : goal.returns-clause-few
returns-clause-few c = λ scene styled laid last.
    no_work c.args.self.now.kept.last scene c.args.self.now.kept.layout styled laid last
