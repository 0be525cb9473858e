-- Behind a frame that published no other size, the next one is the last one again.
use Rattle.std.proofs.Common.{◌≡◌, ◌∙◌, ◌+◌, ℕ, true, List, Option, Some, ap, ap₂, arith, refl, subst, sym}
use Rattle.std.specs.Prelude.{IfSome, IsSome}
use Rattle.fx_base.specs.declared.geometry.Rect.{Rect}
use Rattle.fx_delta.specs.Pictures.{is_size}
use Rattle.fx_kinds.specs.declared.facts.BoxFacts.{BoxFacts}
use Rattle.fx_layout.specs.Layouts.{IsLayout}
use Rattle.fx_plain_dispatch.specs.Costs.{IsDoneWithin}
use Rattle.fx_plain_dispatch.specs.Settling.{IsSettledWhole, all_ran}
use Rattle.fx_plain_frames.specs.Drawable.{IsDrawable}
use Rattle.fx_plain_frames.specs.Pulses.{IsDrawn, course_behind, scene_of, sizes_of}
use Rattle.fx_plain_steps.specs.Courses.{Course, begun}
use Rattle.fx_plain_work.specs.Works.{Counted}
use Rattle.fx_play_steps.specs.Traces.{course_of}
use Rattle.fx_play_steps.specs.declared.traces.Trace.{Trace}
use Rattle.fx_pulse.specs.Rendering.{Rendering, last_frame, surface_of}
use Rattle.fx_pulse.specs.declared.renderer.Frame.{Frame}
use Rattle.fx_pulse_kept.specs.Costs.{AreFew}
use Rattle.fx_pulse_model.specs.Frames.{Framed, IsFrame, frame_damage}
use Rattle.fx_pulse_model.specs.Scenes.{Scene, looks_of}
use Rattle.fx_stage_facts.specs.Attached.{look_cost, looked}
use Rattle.fx_stage_facts.specs.Boxes.{box_facts}
use Rattle.fx_stage_facts.specs.Publishing.{Size, published, sized}
use Rattle.fx_stage_facts.specs.Resting.{IsStill, nothing_told}
use Rattle.fx_stage_facts.specs.Scenes.{facts_of}
use Rattle.fx_stage_model.specs.World.{World}
use Rattle.fx_store_model.specs.declared.changes.Notices.{Notices}
use Rattle.fx_play_frames.specs.Drawn.{IsDrawWork, IsDrawnAs, framed_as, pulsed_as}
use Rattle.fx_play_frames.specs.Resting.{IsAtRest, size_of}
use Rattle.fx_play_frames.specs.declared.pulses.Pulsed.{Pulsed}
use Rattle.fx_play_frames.proofs.DrawnLemmas.{drawn_as, facts_window, last_in}

-- the world behind the frame has the scene that was drawn, which was read and published already
pub rests_behind : (before mid now : World) (seen : Rendering) (wide high : ℕ) (boxes : List BoxFacts)
    (rects : List Rect) → mid ≡ looked before → IsStill (wide, high) (sizes_of boxes rects) mid now
    → boxes ≡ box_facts before → rects ≡ seen.rects → seen.kept.last ≡ Some (scene_of before)
    → (surface_of seen.canvas).width ≡ wide → (surface_of seen.canvas).height ≡ high → IsAtRest now seen
rests_behind before mid now seen wide high boxes rects read still these there last w h =
    let scene : scene_of now ≡ scene_of before = ap scene_of still.rest ∙ ap scene_of read in
    let boxes_are : box_facts now ≡ boxes = ap (λ (s : Scene). s.boxes) scene ∙ sym these in
    let sizes_are : sizes_of (box_facts now) seen.rects ≡ sizes_of boxes rects =
    ap₂ sizes_of boxes_are (sym there) in
    let size : size_of seen ≡ (wide, high) = ap₂ (λ (x y : ℕ). (x, y)) w h in
    let looked_is : looked now ≡ now = still.read before read in
    record {
      scene = last ∙ ap Some (sym scene);
      again = ap (λ (s : ℕ × ℕ). published s (sizes_of (box_facts now) seen.rects) (looked now)) size
          ∙ (ap (λ (l : List Size). published (wide, high) l (looked now)) sizes_are
          ∙ (ap (published (wide, high) (sizes_of boxes rects)) looked_is ∙ still.again));
      told = ap (λ (l : List Size). (sized l (looked now)).notices) sizes_are
          ∙ (ap (λ (w : World). (sized (sizes_of boxes rects) w).notices) looked_is ∙ still.told);
    }

-- the last frame again is the next one
pub drawn_again : (world : World) (seen : Rendering) (made : Pulsed) → IsAtRest world seen
    → IsFrame (scene_of world) world.window made.frame.width made.frame.height seen.rects seen.picture
    → (is_size made.frame.width made.frame.height ≡ true
    → made.frame.damage.items ≡ frame_damage (last_frame seen) seen.picture made.frame.width made.frame.height)
    → IsSome seen.canvas → (surface_of seen.canvas).width ≡ made.frame.width
    → (surface_of seen.canvas).height ≡ made.frame.height → IfSome (last_frame seen) IsDrawable
    → made.told.notices ≡ nothing_told → (evaluated : ℕ)
    → IsDoneWithin (IsDrawn world world (last_frame seen) (last_frame seen) (pulsed_as seen made)) evaluated evaluated
drawn_again world seen made rest shown damage some w h drawable told evaluated =
    let frame = made.frame in
    let sizes = sizes_of (box_facts world) seen.rects in
    let own = look_cost world + (sized sizes (looked world)).cost in
    let size : size_of seen ≡ (frame.width, frame.height) = ap₂ (λ (x y : ℕ). (x, y)) w h in
    let can : IsDrawable (framed_as seen frame) =
    subst (λ (last : Option Framed). IfSome last IsDrawable)
    (last_in seen.canvas seen.picture frame.width frame.height some w h) drawable in
    let drawn : IsDrawnAs world seen seen frame =
    drawn_as world (facts_of world) (scene_of world) seen seen frame refl refl
    (subst (λ (v : Option (ℕ × ℕ)). IsFrame (scene_of world) v frame.width frame.height seen.rects seen.picture)
    (sym (facts_window world)) shown)
    (damage can.sized) some w h drawable in
    let is_drawn : IsDrawn world world (last_frame seen) (last_frame seen) (pulsed_as seen made) own =
    record {
      rects = seen.rects;
      shown = drawn.shown;
      drawable = drawn.drawable;
      damage = drawn.damage;
      published = sym rest.again ∙ ap (λ (s : ℕ × ℕ). published s sizes (looked world)) size;
      notices = told ∙ sym rest.told;
      last_one = drawn.last;
      sum = refl;
    } in
    record { cost = own; done = is_drawn; few = omega arith }

-- and nothing is worked for it
pub work_again : (world : World) (seen : Rendering) (frame : Frame) (count : Counted) → IsAtRest world seen
    → IsLayout (scene_of world).boxes (looks_of (scene_of world)) world.window seen.kept.layout
    → AreFew seen.kept.last (scene_of world) seen.kept.layout seen.kept.layout count.styled count.styled count.laid
    count.laid → IsDrawWork world seen seen frame count count
work_again world seen frame count rest placed few =
    record { scene = rest.scene; layout = placed; few = few; painted = omega arith }

-- where nobody was told, nothing runs
pub settled_quiet : (number : ℕ) (world : World) (trace : Trace) (notices : Notices)
    → ((w : World) → course_of w trace ≡ begun w) → notices ≡ nothing_told
    → IsSettledWhole number (course_behind world notices) (course_of world trace) 0
settled_quiet number world trace notices fresh told =
    subst (λ (n : Notices). IsSettledWhole number (course_behind world n) (course_of world trace) 0) (sym told)
    (subst (λ (c : Course). IsSettledWhole number (begun world) c 0) (sym (fresh world))
    (all_ran 1000 0 (begun world) refl))
