-- The edges of a stamp, and the rows of its glyph between them.
use Rattle.std.proofs.Common.{◌≡◌, ◌<◌, ◌≤◌, ◌*◌, ◌/◌, ◌&&◌, ◌||◌, ◌+ℤ◌, ◌≤ℤ◌, ℕ, ℤ, pos, Bool, true, false, cond, refl, sym, ap, ◌∙◌, arith}
use Rattle.std.specs.Int.{int_max, int_min}
use Rattle.std.proofs.lemmas.Bool.Decides.{nat_tests}
use Rattle.std.proofs.lemmas.Int.{ints, clamps, by_lt_z}
use Rattle.fx_cells.specs.Columns.{cell_width}
use Rattle.fx_cells.specs.Font.{glyph_of}
use Rattle.fx_picture.specs.Bounds.{in_range}
use Rattle.fx_picture.specs.Shapes.{has_dot}
use Rattle.fx_pens.specs.declared.runs.Bits.{Bits}
use Rattle.fx_pens.specs.declared.spans.Pen.{Pen}
use Rattle.fx_pens.specs.declared.stamps.Runs.{Runs}
use Rattle.fx_pens.specs.declared.stamps.Stamp.{Stamp}
use Rattle.fx_pens.specs.Dots.{AreApart, IsStamp, bit_dots, bits_between, char_dots, is_in, joined_runs, runs_beside, runs_dots, stamp_dots}
use Rattle.fx_pens.proofs.CutLemmas.{bit_span}
use Rattle.fx_pens.proofs.LetterLemmas.{bits_are, char_none, row_blank, three_false}

-- ---- a column that is cut to others
abbrev pub clipped : ℕ → ℕ → ℤ → ℤ
clipped low high at = int_max (pos low) (int_min at (pos high))

pub column_is : (low high r : ℕ) (at : ℤ) → low ≤ high
    → (at ≤ℤ pos low → r ≡ low) → (pos low ≤ℤ at → at ≤ℤ pos high → pos r ≡ at) → (pos high ≤ℤ at → r ≡ high)
    → pos r ≡ clipped low high at
column_is low high r at rises less among more =
    by_lt_z (pos low) at
    (λ p. by_lt_z at (pos high)
    (λ q. (let e : pos r ≡ at = among (omega (arith, ints, p)) (omega (arith, ints, q)) in omega (arith, ints, clamps, p, q, e)))
    (λ q. (let e : r ≡ high = more q in omega (arith, ints, clamps, p, q, e))))
    (λ p. (let e : r ≡ low = less p in omega (arith, ints, clamps, p, e, rises)))

span_is : (low high from to x : ℕ) (start end : ℤ) → low ≤ high → pos from ≡ clipped low high start → pos to ≡ clipped low high end
    → low ≤ x → x < high → is_in from to x ≡ in_range start end x
span_is low high from to x start end rises e f a b =
    bit_span low high from to x start end a b
    (λ h. omega (arith, ints, clamps, rises, e, h)) (λ g h. omega (arith, ints, clamps, e, g, h)) (λ h. omega (arith, ints, clamps, rises, e, h))
    (λ h. omega (arith, ints, clamps, rises, f, h)) (λ g h. omega (arith, ints, clamps, f, g, h)) (λ h. omega (arith, ints, clamps, rises, f, h))

columns_rise : (low high a b : ℕ) (p q : ℤ) → pos a ≡ clipped low high p → pos b ≡ clipped low high q → p ≤ℤ q → a ≤ b
columns_rise low high a b p q e f h = omega (arith, ints, clamps, e, f, h)

column_from : (low high a : ℕ) (p : ℤ) → pos a ≡ clipped low high p → low ≤ a
column_from low high a p e = omega (arith, ints, clamps, e)

column_to : (low high a : ℕ) (p : ℤ) → low ≤ high → pos a ≡ clipped low high p → a ≤ high
column_to low high a p h e = omega (arith, ints, clamps, h, e)

scales_rise : (start : ℤ) (m n : ℕ) → m ≤ n → (start +ℤ pos m) ≤ℤ (start +ℤ pos n)
scales_rise start m n h = omega (arith, ints, h)

-- ---- the stamp of a character
pub stamp_edges : (low high s glyph first second third end : ℕ) (start : ℤ) → low ≤ high
    → pos first ≡ clipped low high (start +ℤ pos (0 * s)) → pos second ≡ clipped low high (start +ℤ pos (1 * s))
    → pos third ≡ clipped low high (start +ℤ pos (2 * s)) → pos end ≡ clipped low high (start +ℤ pos (3 * s))
    → IsStamp low high (record { glyph = glyph; first = first; second = second; third = third; end = end })
stamp_edges low high s glyph first second third end start rises e0 e1 e2 e3 = record {
  from = column_from low high first (start +ℤ pos (0 * s)) e0;
  left = columns_rise low high first second (start +ℤ pos (0 * s)) (start +ℤ pos (1 * s)) e0 e1 (scales_rise start (0 * s) (1 * s) (omega arith));
  middle = columns_rise low high second third (start +ℤ pos (1 * s)) (start +ℤ pos (2 * s)) e1 e2 (scales_rise start (1 * s) (2 * s) (omega arith));
  right = columns_rise low high third end (start +ℤ pos (2 * s)) (start +ℤ pos (3 * s)) e2 e3 (scales_rise start (2 * s) (3 * s) (omega arith));
  to = column_to low high end (start +ℤ pos (3 * s)) rises e3;
}

pub stamp_is : (pen : Pen) (start : ℤ) (c glyph first second third end x : ℕ) → glyph ≡ glyph_of c → 1 ≤ cell_width c → 0 < pen.scale
    → pen.left ≤ pen.right
    → pos first ≡ clipped pen.left pen.right (start +ℤ pos (0 * pen.scale)) → pos second ≡ clipped pen.left pen.right (start +ℤ pos (1 * pen.scale))
    → pos third ≡ clipped pen.left pen.right (start +ℤ pos (2 * pen.scale)) → pos end ≡ clipped pen.left pen.right (start +ℤ pos (3 * pen.scale))
    → pen.left ≤ x → x < pen.right
    → stamp_dots (record { glyph = glyph; first = first; second = second; third = third; end = end }) (pen.below / pen.scale) x ≡ char_dots pen start c x
unfolding bits_between
stamp_is pen start c glyph first second third end x is wide some rises e0 e1 e2 e3 a b =
    let s = pen.scale in
    let line = pen.below / s in
    let at1 = start +ℤ pos (1 * s) in
    let at2 = start +ℤ pos (2 * s) in
    let z0 : start +ℤ pos (0 * s) ≡ start = omega (arith, ints) in
    let z1 : start +ℤ pos (1 * s) ≡ start +ℤ pos s = omega (arith, ints) in
    let z2 : start +ℤ pos (2 * s) ≡ at1 +ℤ pos s = omega (arith, ints) in
    let z3 : start +ℤ pos (3 * s) ≡ at2 +ℤ pos s = omega (arith, ints) in
    let f0 : pos first ≡ clipped pen.left pen.right start = e0 ∙ ap (λ z. clipped pen.left pen.right z) z0 in
    let f1 : pos second ≡ clipped pen.left pen.right (start +ℤ pos s) = e1 ∙ ap (λ z. clipped pen.left pen.right z) z1 in
    let f2 : pos third ≡ clipped pen.left pen.right (at1 +ℤ pos s) = e2 ∙ ap (λ z. clipped pen.left pen.right z) z2 in
    let f3 : pos end ≡ clipped pen.left pen.right (at2 +ℤ pos s) = e3 ∙ ap (λ z. clipped pen.left pen.right z) z3 in
    let b0 : is_in first second x ≡ bit_dots pen start x = span_is pen.left pen.right first second x start (start +ℤ pos s) rises f0 f1 a b in
    let b1 : is_in second third x ≡ bit_dots pen at1 x = span_is pen.left pen.right second third x at1 (at1 +ℤ pos s) rises e1 f2 a b in
    let b2 : is_in third end x ≡ bit_dots pen at2 x = span_is pen.left pen.right third end x at2 (at2 +ℤ pos s) rises e2 f3 a b in
    ap (λ (n : ℕ). ((has_dot n 0 line && is_in first second x) || (has_dot n 1 line && is_in second third x)) || (has_dot n 2 line && is_in third end x)) is
    ∙ (ap (λ (t : Bool). ((has_dot (glyph_of c) 0 line && t) || (has_dot (glyph_of c) 1 line && is_in second third x)) || (has_dot (glyph_of c) 2 line && is_in third end x)) b0
    ∙ (ap (λ (t : Bool). ((has_dot (glyph_of c) 0 line && bit_dots pen start x) || (has_dot (glyph_of c) 1 line && t)) || (has_dot (glyph_of c) 2 line && is_in third end x)) b1
    ∙ (ap (λ (t : Bool). ((has_dot (glyph_of c) 0 line && bit_dots pen start x) || (has_dot (glyph_of c) 1 line && bit_dots pen at1 x)) || (has_dot (glyph_of c) 2 line && t)) b2
    ∙ bits_are pen start at1 at2 c x some wide refl refl)))

in_none : (at x : ℕ) → is_in at at x ≡ false
in_none at x = grind (arith, nat_tests)

pub blank_is : (pen : Pen) (start : ℤ) (c at x : ℕ) → cell_width c ≡ 0
    → stamp_dots (record { glyph = 0; first = at; second = at; third = at; end = at }) (pen.below / pen.scale) x ≡ char_dots pen start c x
unfolding bits_between
blank_is pen start c at x none =
    let line = pen.below / pen.scale in
    three_false (has_dot 0 0 line) (has_dot 0 1 line) (has_dot 0 2 line) (is_in at at x) (is_in at at x) (is_in at at x) (in_none at x) (in_none at x) (in_none at x)
    ∙ sym (char_none pen start c x none)

pub blank_edges : (low high : ℕ) → low ≤ high → IsStamp low high (record { glyph = 0; first = low; second = low; third = low; end = low })
blank_edges low high h = record { from = omega arith; left = omega arith; middle = omega arith; right = omega arith; to = h }

-- ---- one row of it
pub row_none : (stamp : Stamp) (line x : ℕ) → 5 ≤ line → stamp_dots stamp line x ≡ false
unfolding bits_between
row_none stamp line x h =
    let d0 = row_blank stamp.glyph 0 line h in
    let d1 = row_blank stamp.glyph 1 line h in
    let d2 = row_blank stamp.glyph 2 line h in
    rw (d0, d1, d2) refl

or_none : (a : Bool) → (a || false) ≡ a
or_none true = refl
or_none false = refl

one_run : (f s t e x : ℕ) (l r : Bool) → f ≤ s → s ≤ t → t ≤ e
    → is_in (cond l f s) (cond r e t) x ≡ (((l && is_in f s x) || is_in s t x) || (r && is_in t e x))
one_run f s t e x true true a b c = grind (arith, nat_tests)
one_run f s t e x true false a b c = grind (arith, nat_tests)
one_run f s t e x false true a b c = grind (arith, nat_tests)
one_run f s t e x false false a b c = grind (arith, nat_tests)

pub joined_edges : (low high : ℕ) (stamp : Stamp) (bits : Bits) → IsStamp low high stamp → AreApart low high (joined_runs stamp bits)
joined_edges low high stamp bits is = edges bits.left bits.right stamp.first stamp.second stamp.third stamp.end is.from is.left is.middle is.right is.to
  where
    edges : (l r : Bool) (f s t e : ℕ) → low ≤ f → f ≤ s → s ≤ t → t ≤ e → e ≤ high
        → AreApart low high (record { left = record { left = cond l f s; right = cond r e t }; right = record { left = e; right = e } })
    edges true true f s t e a b c d g = record { from = omega (arith, a); left = omega (arith, b, c, d); apart = omega arith; right = omega arith; to = g }
    edges true false f s t e a b c d g = record { from = omega (arith, a); left = omega (arith, b, c); apart = d; right = omega arith; to = g }
    edges false true f s t e a b c d g = record { from = omega (arith, a, b); left = omega (arith, c, d); apart = omega arith; right = omega arith; to = g }
    edges false false f s t e a b c d g = record { from = omega (arith, a, b); left = c; apart = d; right = omega arith; to = g }

pub joined_dots : (low high : ℕ) (stamp : Stamp) (bits : Bits) (x : ℕ) → IsStamp low high stamp → bits.middle ≡ true
    → runs_dots (joined_runs stamp bits) x ≡ bits_between stamp bits x
unfolding bits_between
joined_dots low high stamp bits x is m =
    ap (λ (t : Bool). is_in (cond bits.left stamp.first stamp.second) (cond bits.right stamp.end stamp.third) x || t) (in_none stamp.end x)
    ∙ (or_none (is_in (cond bits.left stamp.first stamp.second) (cond bits.right stamp.end stamp.third) x)
    ∙ rw m (one_run stamp.first stamp.second stamp.third stamp.end x bits.left bits.right is.left is.middle is.right))

pub beside_edges : (low high : ℕ) (stamp : Stamp) (bits : Bits) → IsStamp low high stamp → AreApart low high (runs_beside stamp bits)
beside_edges low high stamp bits is = edges bits.left bits.right stamp.first stamp.second stamp.third stamp.end is.from is.left is.middle is.right is.to
  where
    edges : (l r : Bool) (f s t e : ℕ) → low ≤ f → f ≤ s → s ≤ t → t ≤ e → e ≤ high
        → AreApart low high (record { left = record { left = f; right = cond l s f }; right = record { left = t; right = cond r e t } })
    edges true true f s t e a b c d g = record { from = a; left = b; apart = c; right = d; to = g }
    edges true false f s t e a b c d g = record { from = a; left = b; apart = c; right = omega arith; to = omega (arith, d, g) }
    edges false true f s t e a b c d g = record { from = a; left = omega arith; apart = omega (arith, b, c); right = d; to = g }
    edges false false f s t e a b c d g = record { from = a; left = omega arith; apart = omega (arith, b, c); right = omega arith; to = omega (arith, d, g) }

set_run : (from to x : ℕ) (set : Bool) → is_in from (cond set to from) x ≡ (set && is_in from to x)
set_run from to x true = refl
set_run from to x false = in_none from x

pub beside_dots : (stamp : Stamp) (bits : Bits) (x : ℕ) → bits.middle ≡ false → runs_dots (runs_beside stamp bits) x ≡ bits_between stamp bits x
unfolding bits_between
beside_dots stamp bits x m =
    ap (λ (t : Bool). t || is_in stamp.third (cond bits.right stamp.end stamp.third) x) (set_run stamp.first stamp.second x bits.left)
    ∙ (ap (λ (t : Bool). (bits.left && is_in stamp.first stamp.second x) || t) (set_run stamp.third stamp.end x bits.right)
    ∙ rw m (ap (λ (u : Bool). u || (bits.right && is_in stamp.third stamp.end x)) (sym (or_none (bits.left && is_in stamp.first stamp.second x)))))

-- a run holds no column of the one behind it
pub runs_apart : (low high : ℕ) (runs : Runs) (x : ℕ) → AreApart low high runs
    → (is_in runs.left.left runs.left.right x && is_in runs.right.left runs.right.right x) ≡ false
runs_apart low high runs x is = no_two runs.left.left runs.left.right runs.right.left runs.right.right x is.apart
  where
    no_two : (f s t e x : ℕ) → s ≤ t → (is_in f s x && is_in t e x) ≡ false
    no_two f s t e x h = grind (arith, nat_tests)
