use Rattle.std.proofs.Common.{subst, sym, ◌∙◌}
use Rattle.fx_layout.specs.Layouts.{IsLayout}
use Rattle.fx_pulse_kept.specs.Costs.{AreFew}
use Rattle.fx_pulse_model.specs.Frames.{IsFrame}
use Rattle.fx_pulse_model.specs.Scenes.{Scene, looks_of}
use Rattle.fx_pulse_touched.specs.Sights.{scene_of, seen}
use Rattle.fx_pulse_touched.specs.Touched.{IsOfShape}
use Rattle.fx_pulse.specs.Editing.{IsSince, entries_after}
use Rattle.fx_pulse.proofs.LastLemmas.{hung_since, shown_since, size_since}
use Rattle.fx_pulse.proofs.WorkLemmas.{laid_most, styled_most}
use Rattle.fx_pulse.proofs.frames.made_of.Goals as goal

pub made_by-requires-clause-since : goal.made_by-requires-clause-since
made_by-requires-clause-since g c =
    let kept = c.args.kept.now.last in
    let olds = c.args.past.picture.now.entries in
    subst (λ (s : Scene). IsSince c.frame_since.result olds s c.in_ok-brought.brought.marks.items)
    (c.scene.ensures ∙ sym c.scene-2.ensures)
    (record {
      last = kept;
      marked = c.in_ok-brought.ensures.marks;
      hung = hung_since c.args.past.frame c.frame_since.result c.args.following.compared.has_shape kept
          (seen c.scene.result) c.frame_since.ensures
          (λ has. subst (IsOfShape kept) (sym c.scene.ensures) (c.requires.shape has));
      shown = shown_since c.args.past.frame c.frame_since.result c.args.following.compared.has_shape kept olds
          c.frame_since.ensures c.requires.before;
    })

pub returns-clause-same_size : goal.returns-clause-same_size
returns-clause-same_size g c =
    let made = c.in_ok-made.made in
    size_since c.args.past.frame c.frame_since.result c.args.following.compared.has_shape made.width made.height
    made.next c.frame_since.ensures c.in_ok-made.ensures.same_size

pub returns-clause-frame : goal.returns-clause-frame
returns-clause-frame g c =
    let made = c.in_ok-made.made in
    subst (λ (s : Scene). IsFrame s c.args.window made.width made.height made.rects.items
    (entries_after made.next c.args.past.picture.now.entries)) c.scene-2.ensures
    (c.in_ok-made.ensures.frame c.args.window
    (subst (λ (s : Scene). IsLayout s.boxes (looks_of s) c.args.window c.update.new.self.layout)
    (c.scene.ensures ∙ sym c.scene-2.ensures) c.in_ok-brought.ensures.layout))

pub returns-clause-styled : goal.returns-clause-styled
returns-clause-styled g c =
    let last = c.args.kept.now.last in
    let before = c.args.kept.now.layout in
    let layout = c.update.new.self.layout in
    let old = c.args.work.now in
    let new = c.update.new.work in
    styled_most last (scene_of c.args.following.scene) before layout old.styled new.styled old.laid new.laid
    c.requires.scene
    (subst (λ (s : Scene). AreFew last s before layout old.styled new.styled old.laid new.laid) c.scene.ensures
    c.in_ok-brought.ensures.few)

pub returns-clause-laid : goal.returns-clause-laid
returns-clause-laid g c =
    let last = c.args.kept.now.last in
    let before = c.args.kept.now.layout in
    let layout = c.update.new.self.layout in
    let old = c.args.work.now in
    let new = c.update.new.work in
    laid_most last (scene_of c.args.following.scene) before layout old.styled new.styled old.laid new.laid
    (subst (λ (s : Scene). AreFew last s before layout old.styled new.styled old.laid new.laid) c.scene.ensures
    c.in_ok-brought.ensures.few)
