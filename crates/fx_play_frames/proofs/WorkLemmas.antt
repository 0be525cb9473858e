-- What was worked for a frame.
use Rattle.std.proofs.Common.{◌≡◌, ◌≤◌, ◌+◌, ℕ, List, Option, Some, ap, subst, sym, ◌∙◌}
use Rattle.std.specs.List.{sum_by}
use Rattle.fx_base.specs.declared.geometry.Rect.{Rect}
use Rattle.fx_canvas.specs.Painting.{most_writes}
use Rattle.fx_layout.specs.Layouts.{IsLayout}
use Rattle.fx_plain_frames.specs.Games.{Game}
use Rattle.fx_plain_frames.specs.Pulses.{IsDrawn, scene_of}
use Rattle.fx_plain_work.specs.Works.{Counted, IsPulseWork}
use Rattle.fx_pulse.specs.Rendering.{Rendering, last_frame}
use Rattle.fx_pulse.specs.declared.renderer.Frame.{Frame}
use Rattle.fx_pulse_kept.specs.Costs.{AreFew}
use Rattle.fx_pulse_model.specs.Frames.{Framed, frame_damage}
use Rattle.fx_pulse_model.specs.Scenes.{Scene, looks_of}
use Rattle.fx_stage_facts.specs.Scenes.{facts_of}
use Rattle.fx_stage_facts.specs.declared.facts.Facts.{Facts}
use Rattle.fx_stage_model.specs.World.{World}
use Rattle.fx_play_frames.specs.Drawn.{IsDrawWork, pulsed_as}
use Rattle.fx_play_frames.proofs.DrawnLemmas.{facts_window}
use Rattle.fx_play_frames.specs.declared.pulses.Pulsed.{Pulsed}

pub work_as : (world : World) (facts : Facts) (scene : Scene) (before now : Rendering) (frame : Frame) (old new : Counted)
    → facts ≡ facts_of world → scene ≡ scene_of world → now.kept.last ≡ Some scene
    → IsLayout scene.boxes (looks_of scene) facts.window now.kept.layout
    → AreFew before.kept.last scene before.kept.layout now.kept.layout old.styled new.styled old.laid new.laid
    → new.painted ≤ old.painted + sum_by (most_writes now.picture) frame.damage.items
    → IsDrawWork world before now frame old new
work_as world facts scene before now frame old new are is last laid few painted = record {
  scene = subst (λ (s : Scene). now.kept.last ≡ Some s) is last;
  layout = subst (λ (s : Scene). IsLayout s.boxes (looks_of s) world.window now.kept.layout) is
      (subst (λ (w : Option (ℕ × ℕ)). IsLayout scene.boxes (looks_of scene) w now.kept.layout)
      (ap (λ (f : Facts). f.window) are ∙ facts_window world) laid);
  few = subst (λ (s : Scene).
      AreFew before.kept.last s before.kept.layout now.kept.layout old.styled new.styled old.laid new.laid) is few;
  painted = painted;
}

pub pulse_work : (before now : Game) (mid : World) (seen : Rendering) (next : Rendering) (made : Pulsed) (old new : Counted)
    (cost : ℕ)
    → before.last ≡ last_frame seen → now.last ≡ last_frame next
    → IsDrawn before.world mid (last_frame seen) (last_frame next) (pulsed_as next made) cost
    → IsDrawWork before.world seen next made.frame old new
    → IsPulseWork before now (record { scene = seen.kept.last; layout = seen.kept.layout })
    (record { scene = next.kept.last; layout = next.kept.layout }) old new
pulse_work before now mid seen next made old new cost was is drawn work = record {
  frame = (pulsed_as next made).frame;
  shown = is ∙ drawn.last_one;
  scene = work.scene;
  layout = work.layout;
  few = work.few;
  painted = subst (λ (o : Option Framed). new.painted ≤ old.painted
      + sum_by (most_writes next.picture) (frame_damage o next.picture made.frame.width made.frame.height)) (sym was)
      (subst (λ (rs : List Rect). new.painted ≤ old.painted + sum_by (most_writes next.picture) rs) drawn.damage
      work.painted);
}
