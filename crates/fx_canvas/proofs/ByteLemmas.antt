-- Pixels of three bytes stay so where a colour whose channels are bytes is laid over them.
use Rattle.std.proofs.Common.{◌<◌, ◌/◌, ◌%◌, ◌^◌, ◌&&◌, ℕ, suc, Bool, true, false, cond, List, length, get_or, sym, subst, inl, inr, arith}
use Rattle.std.proofs.lemmas.Bool.Decides.{leb_tells}
use Rattle.std.proofs.lemmas.List.{get_or_past}
use Rattle.std.proofs.lemmas.Nat.{mod_below}
use Rattle.fx_base.specs.Pixel.{blended, blue_of, channel, green_of, pixel_of, red_of}
use Rattle.fx_base.specs.declared.color.Color.{Color}
use Rattle.fx_canvas.specs.Painting.{HasBytes}
use Rattle.fx_lanes.proofs.Lanes.{channel_small}
use Rattle.fx_pens.specs.Dots.{IsLaid, is_in}
use Rattle.fx_pens.specs.declared.spans.Pen.{Pen}

pixel_small : (r g b : ℕ) → r < 256 → g < 256 → b < 256 → pixel_of r g b < 2 ^ 24
pixel_small r g b hr hg hb = omega (arith, hr, hg, hb)

blended_small : (color : Color) (under : ℕ) → HasBytes color → blended color under < 2 ^ 24
unfolding blended
blended_small color under is =
    let over : (upper n : ℕ) → upper < 256 → channel upper color.a (n % 256) < 256 =
    λ upper n h. channel_small upper color.a (n % 256) h is.opacity (mod_below n 256 (omega arith)) in
    pixel_small (channel color.r color.a (red_of under)) (channel color.g color.a (green_of under))
    (channel color.b color.a (blue_of under))
    (over color.r (under / 65536) is.red) (over color.g (under / 256) is.green) (over color.b under is.blue)

-- one row that is laid over
pub laid_small : (pen : Pen) (dots : ℕ → Bool) (old new : List ℕ) (p q : ℕ)
    → HasBytes pen.color → IsLaid pen dots old new p q → ((x : ℕ) → get_or old x 0 < 2 ^ 24)
    → (x : ℕ) → get_or new x 0 < 2 ^ 24
laid_small pen dots old new p q is laid small x = elim (leb_tells (suc x) (length old)) [
  | inl t ↦ subst (λ (n : ℕ). n < 2 ^ 24) (sym (laid.pixels x (omega (arith, t.1))))
      (by (is_in pen.left pen.right x && dots x))
  | inr t ↦ subst (λ (n : ℕ). n < 2 ^ 24) (sym (get_or_past new x 0 (omega (arith, t.1, laid.long)))) (omega arith)
]
  where
    by : (t : Bool) → cond t (blended pen.color (get_or old x 0)) (get_or old x 0) < 2 ^ 24
    by true = blended_small pen.color (get_or old x 0) is
    by false = small x
