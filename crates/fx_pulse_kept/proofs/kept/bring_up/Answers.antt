use Rattle.std.proofs.Common.{ap, arith, length, subst, sym, ◌∙◌, ◌≡◌, Bool, IfSome, List, None, Option, Some, option_map}
use Rattle.fx_layout.specs.Updates.{IsUpdate as IsLaidUpdate}
use Rattle.fx_layout.specs.Updates.{Kept as Laid}
use Rattle.fx_layout_sweeps.specs.Marks.{flag_in}
use Rattle.fx_layout_sweeps.specs.Nodes.{parents}
use Rattle.fx_pulse_model.specs.Scenes.{IsScene, Scene}
use Rattle.fx_pulse_model.proofs.KeyLemmas.{different_keys}
use Rattle.fx_style.specs.Kept.{Kept as Styled}
use Rattle.fx_pulse_touched.specs.Marks.{places_of, told}
use Rattle.fx_pulse_touched.specs.Sights.{seen}
use Rattle.fx_pulse_touched.specs.Touched.{is_restyled}
use Rattle.fx_pulse_kept.specs.Keeping.{AreOf, AreStyled}
use Rattle.fx_pulse_kept.specs.Measuring.{AreMeasuredAnew}
use Rattle.fx_pulse_kept.proofs.BroughtLemmas.{brought}
use Rattle.fx_pulse_kept.proofs.kept.bring_up.Goals as goal

pub update-requires-clause-keys : goal.update-requires-clause-keys
update-requires-clause-keys g c = different_keys c.args.following.scene.boxes.now c.requires.scene.births

-- what is kept of the last scene, if there is one, but its layout
was_styled : (last : Option Scene) (styles : Styled) (layout : Laid) → IfSome last (λ (old : Scene). AreOf old styles layout)
    → IfSome last (λ (old : Scene). IsScene old × AreStyled old styles)
was_styled None styles layout was = tt
was_styled (Some old) styles layout was = (was.drawable, was.styled)

pub restyle-requires-clause-was : goal.restyle-requires-clause-was
restyle-requires-clause-was g c =
    was_styled (option_map seen c.args.following.last) c.args.styles.now c.args.layouts.now c.requires.was

pub restyle-requires-clause-quiet : goal.restyle-requires-clause-quiet
restyle-requires-clause-quiet g c = λ k within free.
    (c.requires.touched.styled k within).0
    (ap (λ (l : List Bool). flag_in l k) (sym c.as_slice.ensures.value) ∙ free)

pub returns-clause-brought : goal.returns-clause-brought
returns-clause-brought g c =
    let last = option_map seen c.args.following.last in
    let scene = seen c.args.following.scene in
    let touched = c.args.touched in
    let restyled = c.in_ok-restyled.restyled.items in
    let marks = c.measured_marks-marks.result.items in
    let places : c.as_slice-4.result.now ≡ places_of marks =
    c.as_slice-4.ensures.value ∙ (c.in_ok-places.ensures ∙ ap places_of c.as_slice-3.ensures.value) in
    brought
    (record {
      last = last;
      scene = scene;
      styles = touched.styles.items;
      boxes = touched.boxes.items;
      restyled = restyled;
      marks = marks;
      old_styles = c.args.styles.now;
      new_styles = c.restyle.new.kept;
      old_layout = c.args.layouts.now;
      new_layout = c.update.new.self;
      window = c.args.window;
    })
    (record {
      is = c.requires.scene;
      was = c.requires.was;
      touched = c.requires.touched;
      marks_are = subst (λ l. restyled ≡ told (is_restyled (parents scene.boxes) l) (length scene.boxes))
          c.as_slice.ensures.value c.in_ok-restyled.ensures.marks;
      update = c.in_ok-restyled.ensures.update;
      others = c.in_ok-restyled.ensures.others;
      anew = subst (λ l. AreMeasuredAnew scene.boxes touched.boxes.items restyled l marks) c.changed.ensures
          (subst (λ l. AreMeasuredAnew scene.boxes touched.boxes.items l c.changed.result.now marks)
          c.as_slice-2.ensures.value c.measured_marks-marks.ensures);
      laid = subst (λ l.
          IsLaidUpdate c.args.layouts.now scene.boxes l c.args.window (places_of marks) c.update.new.self)
          c.looks.ensures
          (subst (λ l. IsLaidUpdate c.args.layouts.now scene.boxes c.looks.result.now c.args.window l c.update.new.self)
          places c.in_ok-size.ensures.update);
    })
    c.args.work.now.styled c.update.new.work.styled c.args.work.now.laid c.update.new.work.laid
    (ap (λ w. w.styled) c.in_ok-size.ensures.others ∙ ap (λ w. w.styled) c.in_ok-restyled.ensures.cost)
    (let before = ap (λ w. w.laid) c.in_ok-restyled.ensures.cost in
    let cost = c.in_ok-size.ensures.cost in
    let many = ap length places in
    omega (arith, before, cost, many))
