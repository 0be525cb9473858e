-- Drawings one after another, and one row of a block more.
use Rattle.std.proofs.Common.{◌≡◌, ◌<◌, ◌+◌, ◌^◌, ◌==◌, ◌&&◌, ℕ, Bool, true, false, cond, List, length, get_or, set, refl, sym, ap, ◌∙◌, inl, inr, arith, subst}
use Rattle.std.proofs.lemmas.Bool.{cases_eq}
use Rattle.std.proofs.lemmas.Bool.Decides.{nat_tests, Decides-eqb}
use Rattle.std.proofs.lemmas.List.{get_or-set_same, get_or-set_other}
use Rattle.std.proofs.Math.ListN.{length-set}
use Rattle.fx_base.specs.Pixel.{blended}
use Rattle.fx_canvas.specs.Painting.{HasBytes, HaveOneSize, IsDrawn}
use Rattle.fx_canvas.specs.Surfaces.{AreBytes, Line, no_line, pixel_at, row_at}
use Rattle.fx_canvas.proofs.ByteLemmas.{laid_small}
use Rattle.fx_pens.specs.Dots.{IsLaid, count_in, is_in}
use Rattle.fx_pens.specs.declared.spans.Pen.{Pen}

abbrev pub Change : Type 0
Change = ℕ → ℕ → ℕ → ℕ

pub sizes-then : (old mid new : List Line) → HaveOneSize old mid → HaveOneSize mid new → HaveOneSize old new
sizes-then old mid new a b = record { down = b.down ∙ a.down; across = λ y. b.across y ∙ a.across y }

plus_assoc : (a b c : ℕ) → (a + b) + c ≡ a + (b + c)
plus_assoc a b c = omega arith

-- one drawing, and then another
pub drawn-then : (f g h : Change) (s t u : ℕ → Bool) (m n : ℕ) (old mid new : List Line) (p q r : ℕ)
    → ((x y c : ℕ) → g x y (f x y c) ≡ h x y c) → ((y : ℕ) → u y ≡ false → (s y ≡ false) × (t y ≡ false))
    → IsDrawn f s m old mid p q → IsDrawn g t n mid new q r → IsDrawn h u (m + n) old new p r
drawn-then f g h s t u m n old mid new p q r change touched a b = record {
  sizes = sizes-then old mid new a.sizes b.sizes;
  pixels = λ x y l. b.pixels x y (rw (a.sizes.across y) l) ∙ (ap (g x y) (a.pixels x y l) ∙ change x y (pixel_at old x y));
  kept = λ y e. (let none = touched y e in b.kept y none.1 ∙ a.kept y none.0);
  counted = b.counted ∙ (ap (λ k. k + n) a.counted ∙ plus_assoc p m n);
  bytes = λ small. b.bytes (a.bytes small);
}

-- the same drawing in other words
pub drawn-same : (f g : Change) (s t : ℕ → Bool) (m n : ℕ) (old new : List Line) (p q : ℕ)
    → ((x y c : ℕ) → f x y c ≡ g x y c) → ((y : ℕ) → t y ≡ false → s y ≡ false) → m ≡ n
    → IsDrawn f s m old new p q → IsDrawn g t n old new p q
drawn-same f g s t m n old new p q change touched count a = record {
  sizes = a.sizes;
  pixels = λ x y l. a.pixels x y l ∙ change x y (pixel_at old x y);
  kept = λ y e. a.kept y (touched y e);
  counted = a.counted ∙ ap (λ k. p + k) count;
  bytes = a.bytes;
}

-- nothing is drawn
pub drawn-none : (f : Change) (t : ℕ → Bool) (rows : List Line) (p : ℕ) → ((x y c : ℕ) → f x y c ≡ c) → IsDrawn f t 0 rows rows p p
drawn-none f t rows p h = record {
  sizes = record { down = refl; across = λ y. refl };
  pixels = λ x y l. sym (h x y (pixel_at rows x y));
  kept = λ y e. refl;
  counted = omega arith;
  bytes = λ small. small;
}

-- ---- one row
abbrev pub in_row : ℕ → (ℕ → ℕ → Bool) → Pen → Change
in_row at dots pen x y under = cond ((y == at) && (is_in pen.left pen.right x && dots x y)) (blended pen.color under) under

pub drawn_row : (rows : List Line) (at : ℕ) (row : Line) (dots : ℕ → ℕ → Bool) (pen : Pen) (p q : ℕ)
    → at < length rows → HasBytes pen.color
    → IsLaid pen (λ x. dots x at) (row_at rows at).pixels row.pixels p q
    → IsDrawn (in_row at dots pen) (λ y. y == at) (count_in (λ x. dots x at) pen.left pen.right) rows (set rows at row) p q
drawn_row rows at row dots pen p q within small laid = record {
  sizes = record { down = length-set rows at row; across = across };
  pixels = pixels;
  kept = kept;
  counted = laid.count;
  bytes = bytes;
}
  where
    here : row_at (set rows at row) at ≡ row
    here = get_or-set_same rows at row no_line within

    other : (y : ℕ) → (y ≡ at → ⊥) → row_at (set rows at row) y ≡ row_at rows y
    other y n = get_or-set_other rows at y row no_line n

    across : (y : ℕ) → length (row_at (set rows at row) y).pixels ≡ length (row_at rows y).pixels
    across y = elim (cases_eq y at) [
      | inl e ↦ (let P : ℕ → Type 0 = λ k. length (row_at (set rows at row) k).pixels ≡ length (row_at rows k).pixels in
          subst P (sym e) (ap (λ (l : Line). length l.pixels) here ∙ laid.long))
      | inr n ↦ ap (λ (l : Line). length l.pixels) (other y n)
    ]

    pixels : (x y : ℕ) → x < length (row_at rows y).pixels → pixel_at (set rows at row) x y ≡ in_row at dots pen x y (pixel_at rows x y)
    pixels x y l = elim (cases_eq y at) [
      | inl e ↦ (let P : ℕ → Type 0 = λ k. x < length (row_at rows k).pixels → pixel_at (set rows at row) x k ≡ in_row at dots pen x k (pixel_at rows x k) in
          subst P (sym e) (λ b. (let t : (at == at) ≡ true = (Decides-eqb at at).1 refl in
          rw t (ap (λ (l : Line). get_or l.pixels x 0) here ∙ laid.pixels x b))) l)
      | inr n ↦ (let t : (y == at) ≡ false = grind (arith, nat_tests, n) in rw t (ap (λ (l : Line). get_or l.pixels x 0) (other y n)))
    ]

    kept : (y : ℕ) → (y == at) ≡ false → row_at (set rows at row) y ≡ row_at rows y
    kept y e = other y (λ same. (let t : (y == at) ≡ true = (Decides-eqb y at).1 same in cc))

    bytes : AreBytes rows → AreBytes (set rows at row)
    bytes old x y = elim (cases_eq y at) [
      | inl e ↦ (let P : ℕ → Type 0 = λ k. pixel_at (set rows at row) x k < 2 ^ 24 in
          subst P (sym e) (subst (λ (l : Line). get_or l.pixels x 0 < 2 ^ 24) (sym here)
          (laid_small pen (λ k. dots k at) (row_at rows at).pixels row.pixels p q small laid (λ k. old k at) x)))
      | inr n ↦ subst (λ (l : Line). get_or l.pixels x 0 < 2 ^ 24) (sym (other y n)) (old x y)
    ]
