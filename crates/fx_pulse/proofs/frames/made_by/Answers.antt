use Rattle.std.proofs.Common.{Some, ap, length, refl, subst, sym, ◌≡◌, ◌∙◌}
use Rattle.std.specs.Prelude.{IfSome, IsTrue}
use Rattle.fx_layout.specs.Updates.{rect_at}
use Rattle.fx_shapes.specs.Rects.{IsNear}
use Rattle.fx_pulse_model.proofs.LayoutLemmas.{near}
use Rattle.fx_pulse_model.proofs.LookLemmas.{looks_long}
use Rattle.fx_pulse_model.specs.Scenes.{Scene}
use Rattle.fx_pulse_kept.specs.Measuring.{AreOthersMarked}
use Rattle.fx_pulse_touched.specs.Sights.{seen}
use Rattle.fx_pulse.specs.Editing.{IsShownScene}
use Rattle.fx_pulse.proofs.LastLemmas.{last_in}
use Rattle.fx_pulse.proofs.frames.made_by.Goals as goal

pub next_picture-requires-clause-looks : goal.next_picture-requires-clause-looks
next_picture-requires-clause-looks c =
    ap length c.looks.ensures
    ∙ (ap length c.requires.looks ∙ looks_long (seen c.args.scene) c.requires.kept.drawable)

pub next_picture-requires-clause-near : goal.next_picture-requires-clause-near
next_picture-requires-clause-near c = λ k.
    subst (λ rects. IsNear (rect_at rects k)) (sym c.rects.ensures)
    (near c.args.scene.boxes.now c.args.kept.now.layout.across c.args.kept.now.layout.down
    c.args.kept.now.layout.rects c.requires.kept.laid.rects k)

pub next_picture-requires-clause-last : goal.next_picture-requires-clause-last
next_picture-requires-clause-last c = λ is.
    let scene = seen c.args.scene in
    let size = c.args.brought.size in
    let since = c.requires.since in
    last_in c.args.past.frame since.last scene size.0 size.1 c.looks.result.now c.rects.result.now
    c.as_slice.result.now c.as_slice-4.result.now c.as_slice-3.result.now
    (c.looks.ensures ∙ c.requires.looks)
    (c.can_be_edited-edits.ensures (subst IsTrue (sym is) refl))
    since.hung
    (subst (λ olds. IfSome c.args.past.frame (λ b. (old : Scene) → since.last ≡ Some old
    → IsShownScene old olds b.shown.now)) (sym c.as_slice-3.ensures) since.shown)
    (subst (AreOthersMarked since.last scene) (sym c.as_slice-4.ensures.value) since.marked)
    (c.as_slice.ensures.value ∙ c.in_ok-shown.ensures)
