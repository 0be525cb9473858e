use Rattle.std.proofs.Common.{List, refl, sym, ap, subst, ◌∙◌, ◌≡◌, true, Some}
use Rattle.std.specs.Prelude.{IfSome}
use Rattle.fx_layout.specs.Layouts.{IsLayout}
use Rattle.fx_layout.specs.Updates.{root_size}
use Rattle.fx_pulse_model.specs.Frames.{IsFrame, frame_damage, has_size}
use Rattle.fx_pulse_model.specs.Scenes.{Scene, looks_of}
use Rattle.fx_canvas_laws.specs.Frames.{IsRepainted, Shows}
use Rattle.fx_picture.specs.Entries.{HasDistinctBirths, Rises}
use Rattle.fx_picture.specs.declared.entries.Entry.{Entry}
use Rattle.fx_pulse.specs.Editing.{IsShownScene, entries_after}
use Rattle.fx_pulse.specs.Rendering.{IsCurrent, IsShown, Rendering, last_frame, surface_of}
use Rattle.fx_pulse.proofs.CurrentLemmas.{now_current}
use Rattle.fx_pulse.proofs.ShowLemmas.{damage_next, high, lies, shown_next, wide}
use Rattle.fx_pulse.proofs.renderer.Renderer.show_next.Goals as goal

pub repaint_in-requires : goal.repaint_in-requires
repaint_in-requires g c =
    let made = c.args.made in
    let r : Rendering = record {
      canvas = c.self.inside.canvas;
      picture = c.self.inside.picture.entries;
      rects = c.self.inside.rects.items;
      kept = c.self.inside.kept;
    } in
    let size : has_size (last_frame r) made.width made.height ≡ true =
    subst (λ (v : Rendering). has_size (last_frame v) made.width made.height ≡ true) (sym c.self.view_is)
    c.requires.size in
    lies (Some r.picture) (entries_after made.next r.picture) c.as_slice.result.now (surface_of r.canvas).width
    (surface_of r.canvas).height made.width made.height (wide r made.width made.height size)
    (high r made.width made.height size) (c.as_slice.ensures.value ∙ c.in_ok-damage.ensures)

pub invariant_of-self : goal.invariant_of-self
invariant_of-self g c =
    let made = c.args.made in
    let r : Rendering = record {
      canvas = c.self.inside.canvas;
      picture = c.self.inside.picture.entries;
      rects = c.self.inside.rects.items;
      kept = c.self.inside.kept;
    } in
    let nows = entries_after made.next r.picture in
    let up : Rises nows =
    subst (λ (v : Rendering). Rises (entries_after made.next v.picture)) (sym c.self.view_is) c.requires.rises in
    let births : HasDistinctBirths nows =
    subst (λ (v : Rendering). HasDistinctBirths (entries_after made.next v.picture)) (sym c.self.view_is)
    c.requires.births in
    let size : has_size (last_frame r) made.width made.height ≡ true =
    subst (λ (v : Rendering). has_size (last_frame v) made.width made.height ≡ true) (sym c.self.view_is)
    c.requires.size in
    subst (λ (l : List Entry). IsShown (record {
      canvas = c.repaint_in.new.canvas;
      picture = l;
      rects = made.rects.items;
      kept = c.self.inside.kept;
    })
    × IsCurrent (Some (record { window = c.args.window; shown = made.shown })) (record {
      canvas = c.repaint_in.new.canvas;
      picture = l;
      rects = made.rects.items;
      kept = c.self.inside.kept;
    })) (sym c.follow.ensures) (
      record {
        shows = shown_next r nows c.as_slice.result.now made.width made.height (surface_of c.repaint_in.new.canvas)
            c.self.invariant.0 up births (wide r made.width made.height size)
            (high r made.width made.height size) (c.as_slice.ensures.value ∙ c.in_ok-damage.ensures)
            (subst (λ l. IsRepainted (surface_of r.canvas) l c.as_slice.result.now (surface_of c.repaint_in.new.canvas))
            c.follow.ensures c.repaint_in.ensures.repainted);
        rises = up;
        births = births;
      },
      now_current
          (record {
            canvas = c.repaint_in.new.canvas;
            picture = nows;
            rects = made.rects.items;
            kept = c.self.inside.kept;
          })
          (record { window = c.args.window; shown = made.shown }) made.width made.height
          (c.repaint_in.ensures.repainted.width ∙ wide r made.width made.height size)
          (c.repaint_in.ensures.repainted.height ∙ high r made.width made.height size)
          (subst (λ (v : Rendering). IfSome v.kept.last (λ (scene : Scene). IsFrame scene c.args.window made.width
          made.height made.rects.items (entries_after made.next v.picture))) (sym c.self.view_is) c.requires.drawn)
          (subst (λ (v : Rendering). IfSome v.kept.last (λ (scene : Scene).
          IsShownScene scene (entries_after made.next v.picture) made.shown.items)) (sym c.self.view_is)
          c.requires.shown)
          (subst (λ (v : Rendering). root_size v.kept.layout ≡ (made.width, made.height)) (sym c.self.view_is)
          c.requires.root)
          (subst (λ (v : Rendering). IfSome v.kept.last (λ (scene : Scene).
          IsLayout scene.boxes (looks_of scene) c.args.window v.kept.layout)) (sym c.self.view_is) c.requires.placed),
    )

pub returns-clause-frame : goal.returns-clause-frame
returns-clause-frame g c =
    let made = c.args.made in
    let r : Rendering = record {
      canvas = c.self.inside.canvas;
      picture = c.self.inside.picture.entries;
      rects = c.self.inside.rects.items;
      kept = c.self.inside.kept;
    } in
    let nows = entries_after made.next r.picture in
    let up : Rises nows =
    subst (λ (v : Rendering). Rises (entries_after made.next v.picture)) (sym c.self.view_is) c.requires.rises in
    let births : HasDistinctBirths nows =
    subst (λ (v : Rendering). HasDistinctBirths (entries_after made.next v.picture)) (sym c.self.view_is)
    c.requires.births in
    let size : has_size (last_frame r) made.width made.height ≡ true =
    subst (λ (v : Rendering). has_size (last_frame v) made.width made.height ≡ true) (sym c.self.view_is)
    c.requires.size in
    record {
      width = refl;
      height = refl;
      picture = c.follow.ensures ∙ ap (λ (v : Rendering). entries_after made.next v.picture) c.self.view_is;
      rects = refl;
      kept = ap (λ (v : Rendering). v.kept) c.self.view_is;
      columns = c.repaint_in.ensures.repainted.width ∙ wide r made.width made.height size;
      rows = c.repaint_in.ensures.repainted.height ∙ high r made.width made.height size;
      shows = subst (Shows (surface_of c.repaint_in.new.canvas)) (sym c.follow.ensures)
          (shown_next r nows c.as_slice.result.now made.width made.height (surface_of c.repaint_in.new.canvas)
          c.self.invariant.0 up births (wide r made.width made.height size)
          (high r made.width made.height size) (c.as_slice.ensures.value ∙ c.in_ok-damage.ensures)
          (subst (λ l. IsRepainted (surface_of r.canvas) l c.as_slice.result.now (surface_of c.repaint_in.new.canvas))
          c.follow.ensures c.repaint_in.ensures.repainted));
      damage = subst (λ l. c.in_ok-damage.damage.items
          ≡ frame_damage (last_frame c.args.self.now) l made.width made.height) (sym c.follow.ensures)
          (subst (λ (v : Rendering). c.in_ok-damage.damage.items
          ≡ frame_damage (last_frame v) nows made.width made.height) c.self.view_is
          (c.in_ok-damage.ensures ∙ damage_next r nows made.width made.height size));
    }
