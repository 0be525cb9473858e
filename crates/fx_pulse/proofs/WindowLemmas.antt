-- A canvas of which the whole window was painted anew shows the picture.
use Rattle.std.proofs.Common.{ap, subst, ◌∙◌, ◌≡◌, ℕ, pos, ◌<◌, ◌-ℤ◌, ◌||◌, true, false, cond, List, None, arith}
use Rattle.std.proofs.lemmas.Bool.{and_from}
use Rattle.std.proofs.lemmas.Int.{ints}
use Rattle.fx_base.specs.Rectangle.{in_span}
use Rattle.fx_picture.specs.Pixels.{covered, pixel}
use Rattle.fx_picture.specs.declared.entries.Entry.{Entry}
use Rattle.fx_damage.specs.Damage.{damage}
use Rattle.fx_canvas.specs.Surfaces.{Surface, pixel_at}
use Rattle.fx_canvas_laws.specs.Frames.{IsRepainted, Shows}

within : (w x : ℕ) → x < w → in_span (pos 0) (pos w -ℤ pos 0) x ≡ true
unfolding in_span
within w x less = grind (arith, ints)

pub shows_anew : (nows : List Entry) (before after : Surface)
    → IsRepainted before nows (damage None nows before.width before.height) after → Shows after nows
shows_anew nows before after painted x y left top =
    let w = before.width in
    let h = before.height in
    let first : x < w = subst (λ n. x < n) painted.width left in
    let second : y < h = subst (λ n. y < n) painted.height top in
    let all : covered (damage None nows w h) x y ≡ true =
    ap (λ b. b || false) (and_from (in_span (pos 0) (pos w -ℤ pos 0) x) (in_span (pos 0) (pos h -ℤ pos 0) y)
    (within w x first) (within h y second)) in
    painted.pixels x y first second
    ∙ ap (λ b. cond {A = ℕ} b (pixel nows x y) (pixel_at before.rows x y)) all
