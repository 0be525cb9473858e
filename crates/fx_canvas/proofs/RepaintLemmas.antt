-- Shapes laid over an area one after another, and rectangles painted anew one after another.
use Rattle.std.proofs.Common.{◌≡◌, ◌<◌, ◌+◌, ◌||◌, ◌≤ℤ◌, ◌+ℤ◌, ℕ, pos, Bool, true, false, cond, List, [], ◌∷◌, ◌++◌, length, take, get_or, refl, sym, ap, subst, ◌∙◌, arith, append-nil}
use Rattle.std.specs.List.{sum_by}
use Rattle.std.proofs.lemmas.Grind.{common_steps, flat_map-append}
use Rattle.std.proofs.lemmas.List.Folds.{list_any-append}
use Rattle.std.proofs.lemmas.List.Sums.{sum_by-append, sum_by_push}
use Rattle.fx_base.specs.Pixel.{blended, white}
use Rattle.fx_base.specs.Rectangle.{in_span, inside}
use Rattle.fx_base.specs.declared.color.Color.{Color}
use Rattle.fx_base.specs.declared.geometry.Rect.{Rect}
use Rattle.fx_canvas.specs.Painting.{FitsIn, IsDrawn, area_of, is_met, laid_in, points_in, points_of, repainted, writes}
use Rattle.fx_canvas.specs.Surfaces.{Line}
use Rattle.fx_canvas.proofs.AreaLemmas.{fill_within}
use Rattle.fx_canvas.proofs.CountLemmas.{meet_same, points_all}
use Rattle.fx_canvas.proofs.DrawingLemmas.{drawn-none, drawn-same, drawn-then}
use Rattle.fx_pens.proofs.SpanLemmas.{blended-opaque}
use Rattle.fx_picture.proofs.PixelLemmas.{over-append}
use Rattle.fx_picture.specs.Bounds.{bounds_of, in_range, within}
use Rattle.fx_picture.specs.Pixels.{covered, over, pixel, shapes_of}
use Rattle.fx_picture.specs.declared.edges.Bounds.{Bounds}
use Rattle.fx_picture.specs.declared.entries.Entry.{Entry}
use Rattle.fx_picture.specs.declared.shapes.Shape.{Shape}
use Rattle.fx_picture.specs.declared.shapes.Shape.TheVariants.{Fill}

-- shapes drawn over an area
abbrev pub IsLaidOver : Bounds → List Shape → List Line → List Line → ℕ → ℕ → Type 0
IsLaidOver area shapes old new p q = IsDrawn (laid_in area shapes) (in_range area.min_y area.max_y) (sum_by (points_of area) shapes) old new p q

pub laid-none : (area : Bounds) (rows : List Line) (p : ℕ) → IsLaidOver area [] rows rows p p
laid-none area rows p = drawn-none (laid_in area []) (in_range area.min_y area.max_y) rows p (λ x y c. none (within area x y) c)
  where
    none : (t : Bool) (c : ℕ) → cond t c c ≡ c
    none true c = refl
    none false c = refl

two_conds : (t : Bool) (f g : ℕ → ℕ) (c : ℕ) → cond t (g (cond t (f c) c)) (cond t (f c) c) ≡ cond t (g (f c)) c
two_conds true f g c = refl
two_conds false f g c = refl

pub laid-then : (area : Bounds) (ss ts : List Shape) (old mid new : List Line) (p q r : ℕ)
    → IsLaidOver area ss old mid p q → IsLaidOver area ts mid new q r → IsLaidOver area (ss ++ ts) old new p r
laid-then area ss ts old mid new p q r a b =
    drawn-same (laid_in area (ss ++ ts)) (laid_in area (ss ++ ts)) (in_range area.min_y area.max_y) (in_range area.min_y area.max_y)
    (sum_by (points_of area) ss + sum_by (points_of area) ts) (sum_by (points_of area) (ss ++ ts)) old new p r
    (λ x y c. refl) (λ y e. e) (sym (sum_by-append (points_of area) ss ts))
    (drawn-then (laid_in area ss) (laid_in area ts) (laid_in area (ss ++ ts)) (in_range area.min_y area.max_y) (in_range area.min_y area.max_y) (in_range area.min_y area.max_y)
    (sum_by (points_of area) ss) (sum_by (points_of area) ts) old mid new p q r
    (λ x y c. two_conds (within area x y) (λ u. over x y u ss) (λ u. over x y u ts) c
    ∙ ap (λ u. cond (within area x y) u c) (sym (over-append x y c ss ts)))
    (λ y e. (e, e)) a b)

one_more : (area : Bounds) (s : Shape) → points_of area s ≡ sum_by (points_of area) (s ∷ [])
one_more area s = omega arith

pub laid_one : (area : Bounds) (s : Shape) (old new : List Line) (p q : ℕ)
    → IsDrawn (laid_in area (s ∷ [])) (in_range area.min_y area.max_y) (points_of area s) old new p q → IsLaidOver area (s ∷ []) old new p q
laid_one area s old new p q d =
    drawn-same (laid_in area (s ∷ [])) (laid_in area (s ∷ [])) (in_range area.min_y area.max_y) (in_range area.min_y area.max_y)
    (points_of area s) (sum_by (points_of area) (s ∷ [])) old new p q (λ x y c. refl) (λ y e. e) (one_more area s) d

-- ---- the next of a list
pub next_of : {A : Type 0} (xs : List A) (i : ℕ) (x : A) → i < length xs → x ≡ get_or xs i x → take (i + 1) xs ≡ take i xs ++ (x ∷ [])
next_of xs i x h e = grind (arith, common_steps)

pub next_shape : (area : Bounds) (ss : List Shape) (i : ℕ) (s : Shape) (old mid new : List Line) (p q r : ℕ) → i < length ss → s ≡ get_or ss i s
    → IsLaidOver area (take i ss) old mid p q → IsDrawn (laid_in area (s ∷ [])) (in_range area.min_y area.max_y) (points_of area s) mid new q r
    → IsLaidOver area (take (i + 1) ss) old new p r
next_shape area ss i s old mid new p q r h e a b =
    subst (λ (l : List Shape). IsLaidOver area l old new p r) (sym (next_of ss i s h e))
    (laid-then area (take i ss) (s ∷ []) old mid new p q r a (laid_one area s mid new q r b))

shapes-more : (es : List Entry) (i : ℕ) (e : Entry) → i < length es → e ≡ get_or es i e → shapes_of (take i es) ++ e.shapes ≡ shapes_of (take (i + 1) es)
shapes-more es i e h is =
    sym (ap shapes_of (next_of es i e h is)
    ∙ (flat_map-append (λ (f : Entry). f.shapes) (take i es) (e ∷ [])
    ∙ ap (λ (l : List Shape). shapes_of (take i es) ++ l) (append-nil e.shapes)))

pub next_entry : (area : Bounds) (es : List Entry) (i : ℕ) (e : Entry) (old mid new : List Line) (p q r : ℕ) → i < length es → e ≡ get_or es i e
    → IsLaidOver area (shapes_of (take i es)) old mid p q → IsLaidOver area e.shapes mid new q r → IsLaidOver area (shapes_of (take (i + 1) es)) old new p r
next_entry area es i e old mid new p q r h is a b =
    subst (λ (l : List Shape). IsLaidOver area l old new p r) (shapes-more es i e h is)
    (laid-then area (shapes_of (take i es)) e.shapes old mid new p q r a b)

-- ---- a rectangle
abbrev pub Opaque : Color
Opaque = record { r = 255; g = 255; b = 255; a = 255 }

whitened : (u : ℕ) → blended Opaque u ≡ white
whitened u = blended-opaque Opaque u refl

abbrev pub anew : List Entry → Rect → ℕ → ℕ → ℕ → ℕ
anew entries r x y under = cond (inside r x y) (pixel entries x y) under

rows_same : (r : Rect) (y : ℕ) → in_span r.y r.h y ≡ in_range r.y (r.y +ℤ r.h) y
unfolding in_span in_range
rows_same r y = refl

white_all : (r : Rect) → pos 0 ≤ℤ r.x → pos 0 ≤ℤ r.y → points_of (bounds_of r) (Fill r Opaque) ≡ area_of (bounds_of r)
white_all r left top = ap (points_in (inside r)) (meet_same (bounds_of r)) ∙ points_all r left top

white_then : (w i : Bool) → i ≡ w → (g : ℕ → ℕ) (u v c : ℕ) → u ≡ v → cond w (g (cond w (cond i u c) c)) (cond w (cond i u c) c) ≡ cond i (g v) c
white_then true true e g u v c s = ap g s
white_then true false e g u v c s = cc
white_then false true e g u v c s = cc
white_then false false e g u v c s = refl

pub rect_drawn : (r : Rect) (es : List Entry) (old mid new : List Line) (p q t : ℕ) → FitsIn (bounds_of r) old
    → IsDrawn (laid_in (bounds_of r) (Fill r Opaque ∷ [])) (in_range r.y (r.y +ℤ r.h)) (points_of (bounds_of r) (Fill r Opaque)) old mid p q
    → IsLaidOver (bounds_of r) (shapes_of es) mid new q t
    → IsDrawn (anew es r) (in_span r.y r.h) (writes es r) old new p t
rect_drawn r es old mid new p q t fits a b =
    let area = bounds_of r in
    let rows = in_range r.y (r.y +ℤ r.h) in
    drawn-same (anew es r) (anew es r) rows (in_span r.y r.h)
    (points_of area (Fill r Opaque) + sum_by (points_of area) (shapes_of es)) (writes es r) old new p t
    (λ x y c. refl) (λ y e. sym (rows_same r y) ∙ e)
    (ap (λ n. n + sum_by (points_of area) (shapes_of es)) (white_all r fits.left fits.top))
    (drawn-then (laid_in area (Fill r Opaque ∷ [])) (laid_in area (shapes_of es)) (anew es r) rows rows rows
    (points_of area (Fill r Opaque)) (sum_by (points_of area) (shapes_of es)) old mid new p q t
    (λ x y c. white_then (within area x y) (inside r x y) (fill_within r x y) (λ u. over x y u (shapes_of es)) (blended Opaque c) white c (whitened c))
    (λ y e. (e, e)) a b)

-- ---- all rectangles
abbrev pub IsRepainted : List Entry → List Rect → List Line → List Line → ℕ → ℕ → Type 0
IsRepainted es rects old new p q = IsDrawn (repainted es rects) (is_met rects) (sum_by (writes es) rects) old new p q

either : (a b : Bool) (v c : ℕ) → cond b v (cond a v c) ≡ cond (a || (b || false)) v c
either true true v c = refl
either true false v c = refl
either false true v c = refl
either false false v c = refl

or_false : (a b : Bool) → (a || b) ≡ false → (a ≡ false) × (b ≡ false)
or_false true b h = cc
or_false false b h = (refl, h)

repainted-then : (es : List Entry) (rs : List Rect) (r : Rect) (old mid new : List Line) (p q t : ℕ)
    → IsRepainted es rs old mid p q → IsDrawn (anew es r) (in_span r.y r.h) (writes es r) mid new q t → IsRepainted es (rs ++ (r ∷ [])) old new p t
repainted-then es rs r old mid new p q t a b =
    drawn-same (repainted es (rs ++ (r ∷ []))) (repainted es (rs ++ (r ∷ []))) (is_met (rs ++ (r ∷ []))) (is_met (rs ++ (r ∷ [])))
    (sum_by (writes es) rs + writes es r) (sum_by (writes es) (rs ++ (r ∷ []))) old new p t
    (λ x y c. refl) (λ y e. e) (sym (sum_by_push (writes es) rs r))
    (drawn-then (repainted es rs) (anew es r) (repainted es (rs ++ (r ∷ []))) (is_met rs) (in_span r.y r.h) (is_met (rs ++ (r ∷ [])))
    (sum_by (writes es) rs) (writes es r) old mid new p q t change met a b)
  where
    change : (x y c : ℕ) → anew es r x y (repainted es rs x y c) ≡ repainted es (rs ++ (r ∷ [])) x y c
    change x y c =
        either (covered rs x y) (inside r x y) (pixel es x y) c
        ∙ ap (λ v. cond v (pixel es x y) c) (sym (list_any-append (λ (u : Rect). inside u x y) rs (r ∷ [])))

    met : (y : ℕ) → is_met (rs ++ (r ∷ [])) y ≡ false → (is_met rs y ≡ false) × (in_span r.y r.h y ≡ false)
    met y e =
        let parts = or_false (is_met rs y) (in_span r.y r.h y || false) (sym (list_any-append (λ (u : Rect). in_span u.y u.h y) rs (r ∷ [])) ∙ e) in
        (parts.0, (or_false (in_span r.y r.h y) false parts.1).0)

abbrev pub no_rect : Rect
no_rect = record { x = pos 0; y = pos 0; w = pos 0; h = pos 0 }

next_at : (rs : List Rect) (i : ℕ) → i < length rs → take (i + 1) rs ≡ take i rs ++ (get_or rs i no_rect ∷ [])
next_at rs i h = grind (arith, common_steps)

pub next_rect : (es : List Entry) (rs : List Rect) (i : ℕ) (old mid new : List Line) (p q t : ℕ) → i < length rs
    → IsRepainted es (take i rs) old mid p q
    → IsDrawn (anew es (get_or rs i no_rect)) (in_span (get_or rs i no_rect).y (get_or rs i no_rect).h) (writes es (get_or rs i no_rect)) mid new q t
    → IsRepainted es (take (i + 1) rs) old new p t
next_rect es rs i old mid new p q t h a b =
    subst (λ (l : List Rect). IsRepainted es l old new p t) (sym (next_at rs i h))
    (repainted-then es (take i rs) (get_or rs i no_rect) old mid new p q t a b)
