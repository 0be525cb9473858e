-- Single pixels, each of which is a bit of a glyph.
use Rattle.std.proofs.Common.{◌≡◌, ◌≢◌, ◌<◌, ◌≤◌, ◌+◌, ◌&&◌, ◌⊎◌, ℕ, pos, Bool, true, false, cond, leb, List, get_or, set, sym, ap, subst, refl, ◌∙◌, arith, inl, inr}
use Rattle.std.proofs.lemmas.Bool.Decides.{leb_tells, nat_tests}
use Rattle.std.proofs.lemmas.List.{get_or-set_same, get_or-set_other, length-set}
use Rattle.std.specs.Prelude.{length}
use Rattle.fx_base.specs.Pixel.{blended}
use Rattle.fx_pens.specs.declared.spans.Pen.{Pen}
use Rattle.fx_pens.specs.Dots.{IsInk, IsLaid, bit_dots, is_in}
use Rattle.fx_pens.proofs.DotLemmas.{in_true, laid-none, laid-same, span_count}
use Rattle.fx_pens.proofs.RunLemmas.{alone_near}
use Rattle.fx_pens.proofs.CutLemmas.{narrow}

in_below : (at x : ℕ) → x < at → is_in at (at + 1) x ≡ false
in_below at x h = grind (arith, nat_tests)

in_above : (at x : ℕ) → at < x → is_in at (at + 1) x ≡ false
in_above at x h = grind (arith, nat_tests)

other : (x at : ℕ) → x < at → x ≢ at
other x at h e = omega (arith, h, e)

other_above : (x at : ℕ) → at < x → x ≢ at
other_above x at h e = omega (arith, h, e)

-- one pixel that is set
pub pixel_span : (pen : Pen) (color at : ℕ) (old : List ℕ) (p : ℕ) → IsInk pen.color color → pen.left ≤ at → at < pen.right → pen.right ≤ length old
    → IsLaid pen (is_in at (at + 1)) old (set old at color) p (p + 1)
pixel_span pen color at old p ink left right within = record {
  long = length-set old at color;
  pixels = λ x b. here x (leb_tells at x) (leb_tells x at) ∙ ap (λ t. cond t (blended pen.color (get_or old x 0)) (get_or old x 0)) (narrow pen.left pen.right at (at + 1) x left (omega (arith, right)));
  count = ap (λ n. p + n) (omega (arith, span_count at (at + 1) pen.left pen.right left (omega arith) (omega (arith, right))));
}
  where
    here : (x : ℕ) → ((leb at x ≡ true) × (at ≤ x)) ⊎ ((leb at x ≡ false) × (x < at)) → ((leb x at ≡ true) × (x ≤ at)) ⊎ ((leb x at ≡ false) × (at < x))
        → get_or (set old at color) x 0 ≡ cond (is_in at (at + 1) x) (blended pen.color (get_or old x 0)) (get_or old x 0)
    here x (inr a) u = rw (in_below at x a.1) (get_or-set_other old at x color 0 (other x at a.1))
    here x (inl a) (inr b) = rw (in_above at x b.1) (get_or-set_other old at x color 0 (other_above x at b.1))
    here x (inl a) (inl b) =
        let same : x ≡ at = omega (arith, a.1, b.1) in
        let in' : is_in at (at + 1) x ≡ true = in_true at (at + 1) x a.1 (omega (arith, b.1)) in
        rw in' (ap (λ n. get_or (set old at color) n 0) same ∙ (get_or-set_same old at color 0 (omega (arith, right, within)) ∙ sym (ink (get_or old x 0))))

-- one pixel, if the bit is set
pub pixel_laid : (pen : Pen) (color at : ℕ) (bit : Bool) (old new : List ℕ) (p q : ℕ) → pen.scale ≡ 1 → IsInk pen.color color → pen.left ≤ at → at < pen.right → pen.right ≤ length old
    → new ≡ cond bit (set old at color) old → q ≡ p + cond bit 1 0 → IsLaid pen (λ x. bit && bit_dots pen (pos at) x) old new p q
pixel_laid pen color at true old new p q narrow ink left right within is count =
    let l : IsLaid pen (is_in at (at + 1)) old new p q =
    subst (λ (r : List ℕ). IsLaid pen (is_in at (at + 1)) old r p q) (sym is)
    (subst (λ n. IsLaid pen (is_in at (at + 1)) old (set old at color) p n) (sym count) (pixel_span pen color at old p ink left right within)) in
    laid-same pen (is_in at (at + 1)) (λ x. bit_dots pen (pos at) x) old new p q
    (λ x a b. ap (λ n. is_in at (at + n) x) (sym narrow) ∙ sym (alone_near pen at x)) (omega (arith, left, right)) l
pixel_laid pen color at false old new p q narrow ink left right within is count =
    let same : q ≡ p = count ∙ omega arith in
    subst (λ (r : List ℕ). IsLaid pen (λ x. false) old r p q) (sym is)
    (subst (λ n. IsLaid pen (λ x. false) old old p n) (sym same) (laid-none pen (λ x. false) old p (omega (arith, left, right)) (λ x a b. refl)))

pub length_pixel : (color at : ℕ) (bit : Bool) (old new : List ℕ) → new ≡ cond bit (set old at color) old → length new ≡ length old
length_pixel color at true old new is = ap (λ (r : List ℕ). length r) is ∙ length-set old at color
length_pixel color at false old new is = ap (λ (r : List ℕ). length r) is
