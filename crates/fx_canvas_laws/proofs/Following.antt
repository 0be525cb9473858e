-- Within the damage a point is painted anew, and outside it both pictures show the same.
use Rattle.std.proofs.Common.{subst, ap, ◌∙◌, ℕ, ◌<◌, cond, List, Some, inl, inr}
use Rattle.std.proofs.lemmas.Bool.{cases_Bool}
use Rattle.fx_picture.specs.Entries.{HasDistinctBirths, Rises}
use Rattle.fx_picture.specs.Pixels.{covered, pixel}
use Rattle.fx_picture.specs.declared.entries.Entry.{Entry}
use Rattle.fx_damage.specs.Damage.{damage}
use Rattle.fx_damage.specs.Laws.{SameOutside}
use Rattle.fx_canvas.specs.Surfaces.{Surface, pixel_at}
use Rattle.fx_canvas_laws.specs.Frames.{IsRepainted, Shows}

pub following : SameOutside → (olds nows : List Entry) (before after : Surface) → Rises olds → Rises nows
    → HasDistinctBirths olds → HasDistinctBirths nows → Shows before olds
    → IsRepainted before nows (damage (Some olds) nows before.width before.height) after → Shows after nows
following outside olds nows before after old_rises rises old_births births shows painted x y x_within y_within =
    let left : x < before.width = subst (λ n. x < n) painted.width x_within in
    let top : y < before.height = subst (λ n. y < n) painted.height y_within in
    let rects = damage (Some olds) nows before.width before.height in
    let under = pixel_at before.rows x y in
    painted.pixels x y left top
    ∙ elim (cases_Bool (covered rects x y)) [
      | inl inside ↦ ap (λ b. cond {A = ℕ} b (pixel nows x y) under) inside
      | inr away ↦ ap (λ b. cond {A = ℕ} b (pixel nows x y) under) away
          ∙ (shows x y left top
          ∙ outside olds nows before.width before.height x y old_rises rises old_births births left top away)
    ]
