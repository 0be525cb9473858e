use Rattle.std.proofs.Common.{List, Some, ap, subst, sym, ◌∙◌, ◌≡◌, ◌≤◌}
use Rattle.fx_layout.specs.Layouts.{IsLayout}
use Rattle.fx_layout.specs.Updates.{Kept as Laid, root_size}
use Rattle.fx_picture.specs.declared.entries.Entry.{Entry}
use Rattle.fx_pulse_kept.specs.Costs.{AreFew}
use Rattle.fx_pulse_kept.specs.Keeping.{Keeping}
use Rattle.fx_pulse_touched.specs.Sights.{scene_of}
use Rattle.fx_pulse_touched.specs.Touched.{IsUntouched}
use Rattle.fx_pulse_model.specs.Frames.{IsFrame, frame_damage}
use Rattle.fx_pulse_model.specs.Scenes.{looks_of}
use Rattle.fx_pulse.specs.Editing.{entries_after}
use Rattle.fx_pulse.specs.Rendering.{IsCurrent, IsDrawn, Rendering, last_frame, surface_of}
use Rattle.fx_pulse.proofs.CurrentLemmas.{no_work, undamaged, was_shown, whole_where_other}
use Rattle.fx_pulse.proofs.ShowLemmas.{births_of, both_ok, rises_of, sized}
use Rattle.fx_pulse.proofs.renderer.Renderer.pulse.Goals as goal

pub made_of-requires-clause-before : goal.made_of-requires-clause-before
made_of-requires-clause-before g c =
    let r : Rendering = record {
      canvas = c.self.inside.canvas;
      picture = c.self.inside.picture.entries;
      rects = c.self.inside.rects.items;
      kept = c.self.inside.kept;
    } in
    was_shown c.take-drawn.result r c.frame_before.result
    (subst (λ o. IsCurrent o r) (sym c.take-drawn.ensures.value) c.self.invariant.1) c.frame_before.ensures

pub show_first-requires-clause-whole : goal.show_first-requires-clause-whole
show_first-requires-clause-whole g c =
    let made = c.in_ok-made.made in
    whole_where_other c.take-drawn.result
    (record {
      canvas = c.self.inside.canvas;
      picture = c.self.inside.picture.entries;
      rects = c.self.inside.rects.items;
      kept = c.self.inside.kept;
    })
    c.frame_before.result made.width made.height made.next c.frame_before.ensures
    c.in_ok-made.ensures.same_size (sym c.has_size.ensures ∙ c.if-has_size.false)

pub show_next-requires-clause-rises : goal.show_next-requires-clause-rises
show_next-requires-clause-rises g c =
    let made = c.in_ok-made.made in
    rises_of (scene_of c.args.scene) c.args.window made.width made.height made.rects.items
    (entries_after made.next c.self.inside.picture.entries)
    c.requires.scene c.in_ok-made.ensures.frame

pub show_next-requires-clause-births : goal.show_next-requires-clause-births
show_next-requires-clause-births g c =
    let made = c.in_ok-made.made in
    births_of (scene_of c.args.scene) c.args.window made.width made.height made.rects.items
    (entries_after made.next c.self.inside.picture.entries)
    c.requires.scene c.in_ok-made.ensures.frame

pub show_first-requires-clause-rises : goal.show_first-requires-clause-rises
show_first-requires-clause-rises g c =
    let made = c.in_ok-made.made in
    rises_of (scene_of c.args.scene) c.args.window made.width made.height made.rects.items
    (entries_after made.next c.self.inside.picture.entries)
    c.requires.scene c.in_ok-made.ensures.frame

pub show_first-requires-clause-births : goal.show_first-requires-clause-births
show_first-requires-clause-births g c =
    let made = c.in_ok-made.made in
    births_of (scene_of c.args.scene) c.args.window made.width made.height made.rects.items
    (entries_after made.next c.self.inside.picture.entries)
    c.requires.scene c.in_ok-made.ensures.frame

pub returns-then-has_size-clause-still : goal.returns-then-has_size-clause-still
returns-then-has_size-clause-still g c =
    both_ok c.show_next.result _ _ _
    (λ frame shown same untouched size.
    let few = c.in_ok-made.ensures.still
    (subst (λ (v : Rendering). IsUntouched v.kept.last (scene_of c.args.scene)) (sym c.self.view_is) untouched)
    (ap (λ (v : Rendering). root_size v.kept.layout) c.self.view_is
    ∙ (size ∙ ap (λ (k : Keeping). root_size k.layout) shown.kept)) in (
      subst (λ n. n ≤ c.args.work.now.styled) (sym (ap (λ w. w.styled) same)) few.0,
      subst (λ n. n ≤ c.args.work.now.laid) (sym (ap (λ w. w.laid) same)) few.1,
    ))
    c.show_next.ensures.frame c.show_next.ensures.work

pub returns-clause-still : goal.returns-clause-still
returns-clause-still g c =
    both_ok c.show_first.result _ _ _
    (λ frame shown same untouched size.
    let few = c.in_ok-made.ensures.still
    (subst (λ (v : Rendering). IsUntouched v.kept.last (scene_of c.args.scene)) (sym c.self.view_is) untouched)
    (ap (λ (v : Rendering). root_size v.kept.layout) c.self.view_is
    ∙ (size ∙ ap (λ (k : Keeping). root_size k.layout) shown.kept)) in (
      subst (λ n. n ≤ c.args.work.now.styled) (sym (ap (λ w. w.styled) same)) few.0,
      subst (λ n. n ≤ c.args.work.now.laid) (sym (ap (λ w. w.laid) same)) few.1,
    ))
    c.show_first.ensures.frame c.show_first.ensures.work

pub returns-then-stands_still-clause-damage : goal.returns-then-stands_still-clause-damage
returns-then-stands_still-clause-damage g c =
    let r = c.args.self.now in
    let w = (surface_of r.canvas).width in
    let h = (surface_of r.canvas).height in
    let last = c.in_ok-compared.ensures.last (c.stands_still.ensures.last c.if-stands_still.true) in
    let drawn : IsDrawn r (scene_of c.args.scene) c.args.window =
    c.stands_still.ensures.drawn c.if-stands_still.true (scene_of c.args.scene)
    (sym (ap (λ (v : Rendering). v.kept.last) c.self.view_is) ∙ (last ∙ ap Some c.scene.ensures)) in
    let is = sized (scene_of c.args.scene) c.args.window w h r.rects r.picture drawn.frame c.requires.window in
    subst (λ (l : List Entry). c.still_frame.result.damage.items
    ≡ frame_damage (last_frame r) l c.still_frame.result.width c.still_frame.result.height)
    (sym (ap (λ (v : Rendering). v.picture) c.self.view_is))
    (subst (λ n. c.still_frame.result.damage.items
    ≡ frame_damage (last_frame r) r.picture n c.still_frame.result.height)
    (sym (c.still_frame.ensures.width ∙ ap (λ (v : Rendering). (surface_of v.canvas).width) c.self.view_is))
    (subst (λ n. c.still_frame.result.damage.items ≡ frame_damage (last_frame r) r.picture w n)
    (sym (c.still_frame.ensures.height ∙ ap (λ (v : Rendering). (surface_of v.canvas).height) c.self.view_is))
    (c.still_frame.ensures.damage ∙ undamaged r is)))

pub returns-then-stands_still-clause-few : goal.returns-then-stands_still-clause-few
returns-then-stands_still-clause-few g c =
    let kept = c.args.self.now.kept in
    subst (λ (l : Laid). AreFew kept.last (scene_of c.args.scene) kept.layout l c.args.work.now.styled
    c.args.work.now.styled c.args.work.now.laid c.args.work.now.laid)
    (sym (ap (λ (k : Keeping). k.layout) c.spare.ensures ∙ ap (λ (v : Rendering). v.kept.layout) c.self.view_is))
    (no_work kept.last (scene_of c.args.scene) kept.layout c.args.work.now.styled c.args.work.now.laid
    (sym (ap (λ (v : Rendering). v.kept.last) c.self.view_is)
    ∙ (c.in_ok-compared.ensures.last (c.stands_still.ensures.last c.if-stands_still.true) ∙ ap Some c.scene.ensures)))

pub returns-then-stands_still-clause-frame : goal.returns-then-stands_still-clause-frame
returns-then-stands_still-clause-frame g c =
    let scene = scene_of c.args.scene in
    let window = c.args.window in
    let r = c.args.self.now in
    let w = (surface_of r.canvas).width in
    let high = c.still_frame.result.height in
    let last = c.in_ok-compared.ensures.last (c.stands_still.ensures.last c.if-stands_still.true) in
    let drawn : IsDrawn r scene window =
    c.stands_still.ensures.drawn c.if-stands_still.true scene
    (sym (ap (λ (v : Rendering). v.kept.last) c.self.view_is) ∙ (last ∙ ap Some c.scene.ensures)) in
    subst (λ (v : Rendering). IsFrame scene window c.still_frame.result.width high v.rects v.picture)
    (sym c.self.view_is)
    (subst (λ n. IsFrame scene window n high r.rects r.picture)
    (sym (c.still_frame.ensures.width ∙ ap (λ (v : Rendering). (surface_of v.canvas).width) c.self.view_is))
    (subst (λ n. IsFrame scene window w n r.rects r.picture)
    (sym (c.still_frame.ensures.height ∙ ap (λ (v : Rendering). (surface_of v.canvas).height) c.self.view_is))
    drawn.frame))

pub returns-then-stands_still-clause-size : goal.returns-then-stands_still-clause-size
returns-then-stands_still-clause-size g c =
    let scene = scene_of c.args.scene in
    let r = c.args.self.now in
    let w = (surface_of r.canvas).width in
    let last = c.in_ok-compared.ensures.last (c.stands_still.ensures.last c.if-stands_still.true) in
    let drawn : IsDrawn r scene c.args.window =
    c.stands_still.ensures.drawn c.if-stands_still.true scene
    (sym (ap (λ (v : Rendering). v.kept.last) c.self.view_is) ∙ (last ∙ ap Some c.scene.ensures)) in
    subst (λ (l : Laid). root_size l ≡ (c.still_frame.result.width, c.still_frame.result.height))
    (sym (ap (λ (k : Keeping). k.layout) c.spare.ensures ∙ ap (λ (v : Rendering). v.kept.layout) c.self.view_is))
    (subst (λ n. root_size r.kept.layout ≡ (n, c.still_frame.result.height))
    (sym (c.still_frame.ensures.width ∙ ap (λ (v : Rendering). (surface_of v.canvas).width) c.self.view_is))
    (subst (λ n. root_size r.kept.layout ≡ (w, n))
    (sym (c.still_frame.ensures.height ∙ ap (λ (v : Rendering). (surface_of v.canvas).height) c.self.view_is))
    drawn.size))

pub returns-then-stands_still-clause-placed : goal.returns-then-stands_still-clause-placed
returns-then-stands_still-clause-placed g c =
    let scene = scene_of c.args.scene in
    let r = c.args.self.now in
    let last = c.in_ok-compared.ensures.last (c.stands_still.ensures.last c.if-stands_still.true) in
    let drawn : IsDrawn r scene c.args.window =
    c.stands_still.ensures.drawn c.if-stands_still.true scene
    (sym (ap (λ (v : Rendering). v.kept.last) c.self.view_is) ∙ (last ∙ ap Some c.scene.ensures)) in
    subst (λ (l : Laid). IsLayout c.args.scene.boxes (looks_of scene) c.args.window l)
    (sym (ap (λ (k : Keeping). k.layout) c.spare.ensures ∙ ap (λ (v : Rendering). v.kept.layout) c.self.view_is))
    drawn.placed
