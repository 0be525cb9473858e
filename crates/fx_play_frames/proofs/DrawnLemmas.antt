-- What the renderer drew is what the definition draws.
use Rattle.std.proofs.Common.{◌≡◌, ◌≤◌, ◌+◌, ◌<◌, ◌^◌, ℕ, Bool, true, false, List, Option, Some, None, ◌∙◌, ap, ap₂, arith, subst, refl, sym}
use Rattle.std.specs.Prelude.{IfSome, IsSome}
use Rattle.std.specs.Option.{option_map}
use Rattle.fx_base.specs.declared.geometry.Rect.{Rect}
use Rattle.fx_canvas.specs.Surfaces.{IsSurface, Surface}
use Rattle.fx_canvas_laws.specs.Frames.{Shows}
use Rattle.fx_delta.specs.Pictures.{is_size}
use Rattle.fx_kinds.specs.declared.facts.BoxFacts.{BoxFacts}
use Rattle.fx_picture.specs.Entries.{HasDistinctBirths, Rises}
use Rattle.fx_picture.specs.declared.entries.Entry.{Entry}
use Rattle.fx_plain_dispatch.specs.Costs.{IsDoneWithin}
use Rattle.fx_plain_frames.specs.Drawable.{IsDrawable}
use Rattle.fx_plain_frames.specs.Pulses.{IsDrawn, scene_of, sizes_of}
use Rattle.fx_pulse.specs.Rendering.{Rendering, last_frame, surface_of}
use Rattle.fx_pulse.specs.declared.renderer.Frame.{Frame}
use Rattle.fx_pulse_model.specs.Frames.{Framed, IsFrame, frame_damage}
use Rattle.fx_pulse_model.specs.Scenes.{Scene}
use Rattle.fx_stage_facts.specs.Attached.{look_cost, looked}
use Rattle.fx_stage_facts.specs.Boxes.{box_facts}
use Rattle.fx_stage_facts.specs.Publishing.{published, sized}
use Rattle.fx_stage_facts.specs.Scenes.{facts_of}
use Rattle.fx_stage_facts.specs.declared.facts.Facts.{Facts}
use Rattle.fx_stage_model.specs.World.{World}
use Rattle.fx_play_frames.specs.Drawn.{IsDrawnAs, pulsed_as}
use Rattle.fx_play_frames.specs.declared.pulses.Pulsed.{Pulsed}

abbrev IsNo : Bool → Type 0
IsNo false = Unit {0}
IsNo true = ⊥

pub last_in : (canvas : Option Surface) (picture : List Entry) (w h : ℕ) → IsSome canvas → (surface_of canvas).width ≡ w
    → (surface_of canvas).height ≡ h
    → option_map {T = Surface} {U = Framed} (λ (s : Surface). record { width = s.width; height = s.height; picture = picture }) canvas
    ≡ Some (record { width = w; height = h; picture = picture })
last_in None picture w h some e f = absurd (subst IsNo some tt)
last_in (Some s) picture w h some e f = rw (e, f) refl

pub facts_window : (world : World) → (facts_of world).window ≡ world.window
unfolding facts_of
facts_window world = refl

pub facts_boxes : (world : World) → (facts_of world).boxes ≡ box_facts world
unfolding facts_of
facts_boxes world = refl

pub drawn_as : (world : World) (facts : Facts) (scene : Scene) (before now : Rendering) (frame : Frame) → facts ≡ facts_of world
    → scene ≡ scene_of world
    → IsFrame scene facts.window frame.width frame.height now.rects now.picture
    → frame.damage.items ≡ frame_damage (last_frame before) now.picture frame.width frame.height
    → IsSome now.canvas → (surface_of now.canvas).width ≡ frame.width → (surface_of now.canvas).height ≡ frame.height
    → IfSome (last_frame now) IsDrawable → IsDrawnAs world before now frame
drawn_as world facts scene before now frame are is shown damage some w h drawable = record {
  shown = subst (λ (s : Scene). IsFrame s world.window frame.width frame.height now.rects now.picture) is
      (subst (λ (v : Option (ℕ × ℕ)). IsFrame scene v frame.width frame.height now.rects now.picture)
      (ap (λ (f : Facts). f.window) are ∙ facts_window world) shown);
  damage = damage;
  last = last_in now.canvas now.picture frame.width frame.height some w h;
  drawable = subst (λ (last : Option Framed). IfSome last IsDrawable)
      (last_in now.canvas now.picture frame.width frame.height some w h) drawable;
}

-- what a canvas shows can be drawn

pub shown_drawable : (canvas : Option Surface) (surface : Surface) (picture : List Entry) → canvas ≡ Some surface
    → is_size surface.width surface.height ≡ true → IsSurface surface → Shows (surface_of canvas) picture
    → Rises picture → HasDistinctBirths picture
    → IfSome {T = Framed} (option_map (λ (s : Surface). record { width = s.width; height = s.height; picture = picture }) canvas) IsDrawable
shown_drawable canvas surface picture is sized whole shows rises births =
    let IsSo : Option Surface → Type 0 =
    λ c. IfSome {T = Framed} (option_map (λ (s : Surface). record { width = s.width; height = s.height; picture = picture }) c) IsDrawable in
    let shown : Shows surface picture = subst (λ (c : Option Surface). Shows (surface_of c) picture) is shows in
    subst IsSo (sym is) (record {
      sized = sized;
      rises = rises;
      births = births;
      pixels = λ x y a b. subst (λ (n : ℕ). n < 2 ^ 24) (shown x y a b) (whole.bytes x y);
    })

pub drawn_whole : (before mid now : World) (facts : Facts) (old new : Rendering) (made : Pulsed) (boxes : List BoxFacts) (rects : List Rect)
    → facts ≡ facts_of before → mid ≡ looked before → IsDrawnAs before old new made.frame → boxes ≡ facts.boxes → rects ≡ new.rects
    → now ≡ published (made.frame.width, made.frame.height) (sizes_of boxes rects) mid
    → made.told.notices ≡ (sized (sizes_of boxes rects) mid).notices
    → (began looked_on drawn_on ended : ℕ) → looked_on ≤ began + look_cost before → drawn_on ≡ looked_on
    → ended ≤ drawn_on + (sized (sizes_of boxes rects) mid).cost
    → IsDoneWithin (IsDrawn before now (last_frame old) (last_frame new) (pulsed_as new made)) began ended
drawn_whole before mid now facts old new made boxes rects are read drawn these there out told began looked_on drawn_on ended few still more =
    let boxes_are : boxes ≡ box_facts before = these ∙ (ap (λ (f : Facts). f.boxes) are ∙ facts_boxes before) in
    let sizes_cost : (sized (sizes_of boxes rects) mid).cost ≡ (sized (sizes_of (box_facts before) new.rects) (looked before)).cost =
    ap₂ (λ bs rs. (sized (sizes_of bs rs) mid).cost) boxes_are there
    ∙ ap (λ (w : World). (sized (sizes_of (box_facts before) new.rects) w).cost) read in
    let published_few : ended ≤ drawn_on + (sized (sizes_of (box_facts before) new.rects) (looked before)).cost =
    subst (λ (n : ℕ). ended ≤ drawn_on + n) sizes_cost more in
    let is_drawn : IsDrawn before now (last_frame old) (last_frame new) (pulsed_as new made)
    (look_cost before + (sized (sizes_of (box_facts before) new.rects) (looked before)).cost) = record {
      rects = new.rects;
      shown = drawn.shown;
      drawable = drawn.drawable;
      damage = drawn.damage;
      published = out ∙ (ap₂ (λ bs rs. published (made.frame.width, made.frame.height) (sizes_of bs rs) mid) boxes_are there
          ∙ ap (published (made.frame.width, made.frame.height) (sizes_of (box_facts before) new.rects)) read);
      notices = told ∙ (ap₂ (λ bs rs. (sized (sizes_of bs rs) mid).notices) boxes_are there
          ∙ ap (λ (w : World). (sized (sizes_of (box_facts before) new.rects) w).notices) read);
      last_one = drawn.last;
      sum = refl;
    } in
    record {
      cost = look_cost before + (sized (sizes_of (box_facts before) new.rects) (looked before)).cost;
      done = is_drawn;
      few = omega (arith, few, still, published_few);
    }
