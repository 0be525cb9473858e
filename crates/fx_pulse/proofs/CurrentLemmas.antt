-- The last scene again, in the window in which it was drawn: all stays as it is.
use Rattle.std.proofs.Common.{refl, sym, subst, ◌∙◌, ◌≡◌, ◌&&◌, nat_eq, ℕ, true, false, List, [], ◌∷◌, length, replicate, Option, Some, None, arith}
use Rattle.std.specs.List.{flat_map}
use Rattle.std.specs.Prelude.{IfSome}
use Rattle.std.proofs.lemmas.Bool.{true≢false}
use Rattle.std.proofs.lemmas.Bool.Decides.{nat_tests}
use Rattle.std.proofs.lemmas.List.{get_or-replicate, length-replicate}
use Rattle.fx_canvas.specs.Surfaces.{Surface, is_size}
use Rattle.fx_damage.specs.Damage.{boxes_at, changed_boxes, damage}
use Rattle.fx_damage.proofs.BoxLemmas.{same_none}
use Rattle.fx_layout.specs.Layouts.{IsLayout}
use Rattle.fx_layout.specs.Updates.{Kept, root_size}
use Rattle.fx_picture.specs.Entries.{entry_with}
use Rattle.fx_picture.specs.declared.edges.Bounds.{Bounds}
use Rattle.fx_picture.specs.declared.entries.Entry.{Entry}
use Rattle.fx_pulse_kept.specs.Costs.{AreFew}
use Rattle.fx_pulse_model.specs.Frames.{IsFrame, frame_damage, has_size}
use Rattle.fx_pulse_model.specs.Scenes.{Scene, looks_of}
use Rattle.fx_pulse_touched.specs.Touched.{AreTouched}
use Rattle.fx_pulse.specs.Editing.{IsOfSize, IsShownScene, IsWhole}
use Rattle.fx_pulse.specs.Rendering.{IsCurrent, IsDrawn, IsDrawnBefore, Rendering, last_frame, surface_of}
use Rattle.fx_pulse.specs.declared.frames.Before.{Before}
use Rattle.fx_pulse.specs.declared.frames.Next.{Next}
use Rattle.fx_pulse.specs.declared.frames.Next.TheVariants as next
use Rattle.fx_pulse.specs.declared.renderer.Drawing.{Drawing}
use Rattle.fx_pulse.proofs.ShowLemmas.{damage_next}

-- ---- no damage
flat_none : (f : ℕ → List Bounds) (ns : List ℕ) → ((n : ℕ) → f n ≡ []) → flat_map f ns ≡ []
flat_none f [] none = refl
flat_none f (n ∷ ns) none = rw (none n, flat_none f ns none) refl

unchanged : (es : List Entry) (w h : ℕ) → damage (Some es) es w h ≡ []
unchanged es w h =
    let none : changed_boxes es es ≡ [] =
    flat_none (boxes_at es es) _ (λ n. same_none (entry_with n es) (entry_with n es) refl) in
    rw none refl

own_size : (r : Rendering) → is_size (surface_of r.canvas).width (surface_of r.canvas).height ≡ true
    → has_size (last_frame r) (surface_of r.canvas).width (surface_of r.canvas).height ≡ true
own_size r = by r.canvas
  where
    by : (canvas : Option Surface) → is_size (surface_of canvas).width (surface_of canvas).height ≡ true
        → has_size (last_frame (record r { canvas = canvas })) (surface_of canvas).width (surface_of canvas).height
        ≡ true
    by None is = absurd (true≢false (sym is))
    by (Some s) is = grind (arith, nat_tests)

pub undamaged : (r : Rendering) → is_size (surface_of r.canvas).width (surface_of r.canvas).height ≡ true
    → [] ≡ frame_damage (last_frame r) r.picture (surface_of r.canvas).width (surface_of r.canvas).height
undamaged r is =
    let w = (surface_of r.canvas).width in
    let h = (surface_of r.canvas).height in
    sym (unchanged r.picture w h) ∙ damage_next r r.picture w h (own_size r is)

-- ---- the frame that was drawn
pub now_current : (r : Rendering) (d : Drawing) (w h : ℕ) → (surface_of r.canvas).width ≡ w
    → (surface_of r.canvas).height ≡ h
    → IfSome r.kept.last (λ (scene : Scene). IsFrame scene d.window w h r.rects r.picture)
    → IfSome r.kept.last (λ (scene : Scene). IsShownScene scene r.picture d.shown.items)
    → root_size r.kept.layout ≡ (w, h)
    → IfSome r.kept.last (λ (scene : Scene). IsLayout scene.boxes (looks_of scene) d.window r.kept.layout)
    → IsCurrent (Some d) r
now_current r d w h wide high frame shown size placed = by r.kept.last frame shown placed
  where
    by : (last : Option Scene) → IfSome last (λ (scene : Scene). IsFrame scene d.window w h r.rects r.picture)
        → IfSome last (λ (scene : Scene). IsShownScene scene r.picture d.shown.items)
        → IfSome last (λ (scene : Scene). IsLayout scene.boxes (looks_of scene) d.window r.kept.layout)
        → IfSome last (λ (scene : Scene). IsDrawn r scene d.window × IsShownScene scene r.picture d.shown.items)
    by None none also too = none
    by (Some scene) is told there = (
      record {
        frame = subst (λ n. IsFrame scene d.window n (surface_of r.canvas).height r.rects r.picture) (sym wide)
            (subst (λ n. IsFrame scene d.window w n r.rects r.picture) (sym high) is);
        size = subst (λ n. root_size r.kept.layout ≡ (n, (surface_of r.canvas).height)) (sym wide)
            (subst (λ n. root_size r.kept.layout ≡ (w, n)) (sym high) size);
        placed = there;
      },
      told,
    )

-- ---- the frame before
pub was_shown : (drawn : Option Drawing) (r : Rendering) (before : Option Before) → IsCurrent drawn r
    → IsDrawnBefore drawn r.canvas before
    → IfSome before (λ (b : Before). (last : Scene) → r.kept.last ≡ Some last → IsShownScene last r.picture b.shown.now)
was_shown drawn r None current is = tt
was_shown None r (Some b) current is = absurd is
was_shown (Some d) r (Some b) current is = by r.canvas is
  where
    by : (canvas : Option Surface) → IsDrawnBefore (Some d) canvas (Some b) → (last : Scene) → r.kept.last ≡ Some last
        → IsShownScene last r.picture b.shown.now
    by None none last e = absurd none
    by (Some s) is last e =
        subst (IsShownScene last r.picture) (sym is.0)
        (subst (λ o. IfSome o (λ (scene : Scene). IsDrawn r scene d.window × IsShownScene scene r.picture d.shown.items))
        e current).1

alike : (a b c d : ℕ) → a ≡ b → c ≡ d → (nat_eq a b && nat_eq c d) ≡ true
alike a b c d p q = grind (arith, nat_tests)

pub whole_where_other : (drawn : Option Drawing) (r : Rendering) (before : Option Before) (w h : ℕ) (made : Next)
    → IsDrawnBefore drawn r.canvas before → IsOfSize before w h made → has_size (last_frame r) w h ≡ false
    → IsWhole made
whole_where_other drawn r before w h (next.Whole picture) is size other = tt
whole_where_other drawn r None w h (next.Edited edits) is size other = absurd size
whole_where_other None r (Some b) w h (next.Edited edits) is size other = absurd is
whole_where_other (Some d) r (Some b) w h (next.Edited edits) is size other = by r.canvas is other
  where
    by : (canvas : Option Surface) → IsDrawnBefore (Some d) canvas (Some b)
        → has_size (last_frame (record r { canvas = canvas })) w h ≡ false → ⊥
    by None none o = absurd none
    by (Some s) is o = true≢false (sym (alike s.width w s.height h (sym is.1 ∙ size.0) (sym is.2 ∙ size.1)) ∙ o)

-- ---- no work
none_touched : (last : Option Scene) (scene : Scene) → last ≡ Some scene
    → AreTouched last scene (replicate (length scene.styles) false) (replicate (length scene.boxes) false)
none_touched last scene same =
    subst (λ (o : Option Scene). AreTouched o scene (replicate (length scene.styles) false)
    (replicate (length scene.boxes) false)) (sym same) (record {
      each_style = length-replicate (length scene.styles) false;
      each_box = length-replicate (length scene.boxes) false;
      styled = λ k within. (
        λ no. (record { sheets = refl; keys = refl; parents = refl }, refl),
        λ as_before. get_or-replicate (length scene.styles) k false false within,
      );
      laid = λ k within. (
        λ no. (record { sheets = refl; keys = refl; parents = refl }, refl),
        λ as_before. get_or-replicate (length scene.boxes) k false false within,
      );
    })

pub no_work : (last : Option Scene) (scene : Scene) (layout : Kept) (styled laid : ℕ) → last ≡ Some scene
    → AreFew last scene layout layout styled styled laid laid
no_work last scene layout styled laid same = record {
  styles = replicate (length scene.styles) false;
  boxes = replicate (length scene.boxes) false;
  touched = none_touched last scene same;
  few_styled = omega arith;
  few_laid = omega arith;
}
