-- Outside the damage both pictures show the same.
use Rattle.std.proofs.Common.{◌≡◌, ◌<◌, ◌+◌, ◌==◌, ℕ, Bool, true, false, ◌||◌, not, cond, List, [], ◌∷◌, ◌++◌, length, map, Option, Some, None, refl, sym, ap, ◌∙◌, inl, inr, arith, nat_lt}
use Rattle.std.specs.Prelude.{nat_eq}
use Rattle.std.specs.Cmp.Lexicographic.{pointwise}
use Rattle.std.specs.List.{flat_map, list_any}
use Rattle.std.proofs.lemmas.Bool.Decides.{Decides-int_eq, Decides-eqb}
use Rattle.std.proofs.lemmas.Int.{ints}
use Rattle.std.proofs.lemmas.List.Folds.{list_any-append}
use Rattle.std.proofs.lemmas.Slice.Eq.{slice_eq-Decides}
use Rattle.fx_base.specs.Rectangle.{in_span, inside}
use Rattle.fx_base.specs.Pixel.{white}
use Rattle.fx_base.specs.declared.geometry.Rect.{Rect}
use Rattle.fx_picture.specs.declared.edges.Bounds.{Bounds}
use Rattle.fx_picture.specs.declared.entries.Entry.{Entry}
use Rattle.fx_picture.specs.declared.shapes.Shape.{Shape}
use Rattle.fx_picture.specs.declared.shapes.Shape.TheVariants.{Fill, Letters}
use Rattle.fx_picture.specs.Bounds.{are_same, bounds_of, hull_of, in_range, is_empty, meet, rect_of, within}
use Rattle.fx_picture.specs.Entries.{HasDistinctBirths, entry_with}
use Rattle.fx_picture.specs.Pixels.{covered}
use Rattle.fx_picture.specs.Sameness.{is_same_shape}
use Rattle.fx_picture.specs.Shapes.{bounds, holds}
use Rattle.fx_picture.proofs.SamenessLemmas.{Decides-shapes}
use Rattle.fx_damage.specs.Damage.{stays, box_of, boxes_of, boxes_at, births_of, changed_boxes, window, cut_to, at_most_sixteen, damage}
use Rattle.fx_damage.specs.Births.{is_among}
use Rattle.fx_damage.specs.Laws.{SameOutside}
use Rattle.fx_picture.proofs.BoundsLemmas.{Within, both_true, within_tells, within_from, within-some, within-meet, within-hull_of, inside-rect_of}
use Rattle.fx_damage.proofs.BirthLemmas.{has_birth, among-births}
use Rattle.fx_damage.proofs.MergeLemmas.{Among, Stands, AllStand, touches, same_pixels}

-- whether a point lies within one of these bounds
abbrev pub any_within : List Bounds → ℕ → ℕ → Bool
any_within all x y = list_any (λ b. within b x y) all

or_false : (a b : Bool) → (a || b) ≡ false → (a ≡ false) × (b ≡ false)
or_false true b h = cc
or_false false b h = (refl, h)

or_right : (a b : Bool) → b ≡ true → (a || b) ≡ true
or_right true b q = refl
or_right false b q = q

-- ---- a shape lies within its bounds, and an entry that shows at a point within its box
fill_within : (r : Rect) (x y : ℕ) → inside r x y ≡ within (bounds_of r) x y
unfolding in_span in_range
fill_within r x y = refl

shape_within : (s : Shape) (x y : ℕ) → holds s x y ≡ true → within (bounds s) x y ≡ true
shape_within (Fill r c) x y h = sym (fill_within r x y) ∙ h
shape_within (Letters v w z t r c) x y h = (both_true _ _ h).0

bounds_any : (ss : List Shape) (x y : ℕ) → list_any (λ s. holds s x y) ss ≡ true → any_within (map bounds ss) x y ≡ true
bounds_any [] x y h = cc
bounds_any (s ∷ ss) x y h = any (holds s x y) refl h (λ r. bounds_any ss x y r)
  where
    any : (t : Bool) → holds s x y ≡ t → (t || list_any (λ r. holds r x y) ss) ≡ true
        → (list_any (λ r. holds r x y) ss ≡ true → any_within (map bounds ss) x y ≡ true) → any_within (map bounds (s ∷ ss)) x y ≡ true
    any true e h go = let here = shape_within s x y e in rw here refl
    any false e h go = or_right (within (bounds s) x y) (any_within (map bounds ss) x y) (go h)

pub touches-box : (e : Entry) (x y : ℕ) → touches x y e ≡ true → within (box_of (Some e)) x y ≡ true
unfolding box_of
touches-box e x y h = within-hull_of (map bounds e.shapes) x y (bounds_any e.shapes x y h)

-- ---- the boxes of a node that doesn't stay
same_edges : (a b : Bounds) (x y : ℕ) → are_same a b ≡ true → within b x y ≡ within a x y
same_edges a b x y h =
    let one = both_true _ _ h in
    let two = both_true _ _ one.1 in
    let three = both_true _ _ two.1 in
    let left : a.min_x ≡ b.min_x = (Decides-int_eq a.min_x b.min_x).0 one.0 in
    let top : a.min_y ≡ b.min_y = (Decides-int_eq a.min_y b.min_y).0 two.0 in
    let right : a.max_x ≡ b.max_x = (Decides-int_eq a.max_x b.max_x).0 three.0 in
    let bottom : a.max_y ≡ b.max_y = (Decides-int_eq a.max_y b.max_y).0 three.1 in
    rw (left, top, right, bottom) refl

two_old : (a b : Bounds) (x y : ℕ) (t : Bool) → within a x y ≡ true → any_within (cond t (a ∷ []) (a ∷ b ∷ [])) x y ≡ true
two_old a b x y true h = rw h refl
two_old a b x y false h = rw h refl

two_new : (a b : Bounds) (x y : ℕ) (t : Bool) → are_same a b ≡ t → within b x y ≡ true → any_within (cond t (a ∷ []) (a ∷ b ∷ [])) x y ≡ true
two_new a b x y true e h = let here : within a x y ≡ true = sym (same_edges a b x y e) ∙ h in rw here refl
two_new a b x y false e h = or_right (within a x y) (within b x y || false) (rw h refl)

moved_old : (e : Entry) (f : Option Entry) (x y : ℕ) → stays (Some e) f ≡ false → touches x y e ≡ true → any_within (boxes_of (Some e) f) x y ≡ true
moved_old e f x y s h =
    let old = two_old (box_of (Some e)) (box_of f) x y (are_same (box_of (Some e)) (box_of f)) (touches-box e x y h) in
    rw s old

moved_new : (e : Option Entry) (f : Entry) (x y : ℕ) → stays e (Some f) ≡ false → touches x y f ≡ true → any_within (boxes_of e (Some f)) x y ≡ true
moved_new e f x y s h =
    let now = two_new (box_of e) (box_of (Some f)) x y (are_same (box_of e) (box_of (Some f))) refl (touches-box f x y h) in
    rw s now

-- ---- the boxes of all nodes
any_flat : (f : ℕ → List Bounds) (bs : List ℕ) (b x y : ℕ) → is_among bs b ≡ true → any_within (f b) x y ≡ true → any_within (flat_map f bs) x y ≡ true
any_flat f [] b x y a h = cc
any_flat f (c ∷ cs) b x y a h = list_any-append (λ e. within e x y) (f c) (flat_map f cs) ∙ here (c == b) refl a (λ r. any_flat f cs b x y r h)
  where
    here : (t : Bool) → (c == b) ≡ t → (t || is_among cs b) ≡ true → (is_among cs b ≡ true → any_within (flat_map f cs) x y ≡ true)
        → (any_within (f c) x y || any_within (flat_map f cs) x y) ≡ true
    here true e a go =
        let same : c ≡ b = (Decides-eqb c b).0 e in
        let first : any_within (f c) x y ≡ true = ap (λ n. any_within (f n) x y) same ∙ h in
        rw first refl
    here false e a go = or_right (any_within (f c) x y) (any_within (flat_map f cs) x y) (go a)

-- ---- the cut and the joining
window_within : (w h x y : ℕ) → x < w → y < h → Within (window w h) x y
window_within w h x y p q = record {
  across = record { from = omega (arith, ints); to = omega (arith, ints) };
  down = record { from = omega (arith, ints); to = omega (arith, ints) };
}

pub any-cut : (bs : List Bounds) (w h x y : ℕ) → x < w → y < h → any_within bs x y ≡ true → any_within (cut_to (window w h) bs) x y ≡ true
any-cut [] w h x y p q t = cc
any-cut (b ∷ bs) w h x y p q t = cut (within b x y) (is_empty (meet (window w h) b)) refl refl t (λ r. any-cut bs w h x y p q r)
  where
    cut : (in' empty : Bool) → within b x y ≡ in' → is_empty (meet (window w h) b) ≡ empty → (in' || any_within bs x y) ≡ true
        → (any_within bs x y ≡ true → any_within (cut_to (window w h) bs) x y ≡ true)
        → any_within (cond (not empty) (meet (window w h) b ∷ cut_to (window w h) bs) (cut_to (window w h) bs)) x y ≡ true
    cut true true e f t go =
        let some = within-some (meet (window w h) b) x y (within-meet (window w h) b x y (window_within w h x y p q) (within_tells b x y e)) in cc
    cut true false e f t go =
        let here = within_from (meet (window w h) b) x y (within-meet (window w h) b x y (window_within w h x y p q) (within_tells b x y e)) in
        rw here refl
    cut false true e f t go = go t
    cut false false e f t go = or_right (within (meet (window w h) b) x y) (any_within (cut_to (window w h) bs) x y) (go t)

pub any-few : (bs : List Bounds) (x y : ℕ) → any_within bs x y ≡ true → any_within (at_most_sixteen bs) x y ≡ true
any-few bs x y h = few (nat_lt 16 (length bs))
  where
    few : (t : Bool) → any_within (cond t (hull_of bs ∷ []) bs) x y ≡ true
    few true = let all = within-hull_of bs x y h in rw all refl
    few false = h

covered-rects : (bs : List Bounds) (x y : ℕ) → covered (map rect_of bs) x y ≡ any_within bs x y
covered-rects [] x y = refl
covered-rects (b ∷ bs) x y = rw (inside-rect_of b x y, covered-rects bs x y) refl

-- ---- entries by their birth numbers
among-birth : (es : List Entry) (e : Entry) → Among es e → has_birth es e.key.birth ≡ true
among-birth [] e a = absurd a
among-birth (f ∷ fs) e a = elim a [
  | inl same ↦ (let t : (f.key.birth == e.key.birth) ≡ true = (Decides-eqb f.key.birth e.key.birth).1 (ap (λ (g : Entry). g.key.birth) same) in rw t refl)
  | inr more ↦ or_right (f.key.birth == e.key.birth) (has_birth fs e.key.birth) (among-birth fs e more)
]

pub none_among : (es : List Entry) (b : ℕ) → entry_with b es ≡ None → has_birth es b ≡ false
none_among [] b h = refl
none_among (e ∷ es) b h = none (e.key.birth == b) h (λ r. none_among es b r)
  where
    none : (t : Bool) → cond t (Some e) (entry_with b es) ≡ None → (entry_with b es ≡ None → has_birth es b ≡ false) → (t || has_birth es b) ≡ false
    none true h go = cc
    none false h go = go h

pub entry-among : (es : List Entry) (e : Entry) → HasDistinctBirths es → Among es e → entry_with e.key.birth es ≡ Some e
entry-among [] e d a = absurd a
entry-among (f ∷ fs) e d a = elim a [
  | inl same ↦ (let t : (f.key.birth == e.key.birth) ≡ true = (Decides-eqb f.key.birth e.key.birth).1 (ap (λ (g : Entry). g.key.birth) same) in rw t (ap Some same))
  | inr more ↦ behind (f.key.birth == e.key.birth) refl more (entry-among fs e d.1 more)
]
  where
    behind : (t : Bool) → (f.key.birth == e.key.birth) ≡ t → Among fs e → entry_with e.key.birth fs ≡ Some e → cond t (Some f) (entry_with e.key.birth fs) ≡ Some e
    behind true q more go =
        let same : f.key.birth ≡ e.key.birth = (Decides-eqb f.key.birth e.key.birth).0 q in
        let none = none_among fs f.key.birth d.0 in
        let some : has_birth fs f.key.birth ≡ true = ap (has_birth fs) same ∙ among-birth fs e more in cc
    behind false q more go = go

pub among-entry : (es : List Entry) (b : ℕ) (e : Entry) → entry_with b es ≡ Some e → Among es e
among-entry [] b e h = cc
among-entry (f ∷ fs) b e h = found (f.key.birth == b) h (λ r. among-entry fs b e r)
  where
    found : (t : Bool) → cond t (Some f) (entry_with b fs) ≡ Some e → (entry_with b fs ≡ Some e → Among fs e) → Among (f ∷ fs) e
    found true h go = inl cc
    found false h go = inr (go h)

-- ---- an entry that stays
stays_stands : (fs : List Entry) (b : ℕ) (e : Entry) (f : Option Entry) → entry_with b fs ≡ f → stays (Some e) f ≡ true → Stands fs e
stays_stands fs b e None q s = cc
stays_stands fs b e (Some f) q s =
    let parts = both_true (pointwise nat_eq e.path f.path) (pointwise is_same_shape e.shapes f.shapes) s in
    record {
      entry = f;
      among = among-entry fs b f q;
      path = sym ((slice_eq-Decides Decides-eqb e.path f.path (pointwise nat_eq e.path f.path) refl).0 parts.0);
      shapes = sym ((Decides-shapes e.shapes f.shapes).0 parts.1);
    }

stays_back : (es : List Entry) (b : ℕ) (e : Option Entry) (f : Entry) → entry_with b es ≡ e → stays e (Some f) ≡ true → Stands es f
stays_back es b None f q s = cc
stays_back es b (Some e) f q s =
    let parts = both_true (pointwise nat_eq e.path f.path) (pointwise is_same_shape e.shapes f.shapes) s in
    record {
      entry = e;
      among = among-entry es b e q;
      path = (slice_eq-Decides Decides-eqb e.path f.path (pointwise nat_eq e.path f.path) refl).0 parts.0;
      shapes = (Decides-shapes e.shapes f.shapes).0 parts.1;
    }

pub has-append : (es fs : List Entry) (b : ℕ) → has_birth (es ++ fs) b ≡ (has_birth es b || has_birth fs b)
has-append es fs b = list_any-append (λ e. e.key.birth == b) es fs

-- what is not covered lies within no box
uncovered : (olds nows : List Entry) (w h x y b : ℕ) → x < w → y < h → covered (damage (Some olds) nows w h) x y ≡ false
    → has_birth (olds ++ nows) b ≡ true → any_within (boxes_at olds nows b) x y ≡ true → ⊥
uncovered olds nows w h x y b p q none has in' =
    let births : is_among (births_of (olds ++ nows)) b ≡ true = among-births (olds ++ nows) b ∙ has in
    let all = any_flat (boxes_at olds nows) (births_of (olds ++ nows)) b x y births in' in
    let cut = any-cut (changed_boxes olds nows) w h x y p q all in
    let few = any-few (cut_to (window w h) (changed_boxes olds nows)) x y cut in
    let shown : covered (damage (Some olds) nows w h) x y ≡ true = covered-rects (at_most_sixteen (cut_to (window w h) (changed_boxes olds nows))) x y ∙ few in
    cc

olds_stand : (olds nows : List Entry) (w h x y : ℕ) → HasDistinctBirths olds → x < w → y < h
    → covered (damage (Some olds) nows w h) x y ≡ false → AllStand x y olds nows
olds_stand olds nows w h x y d p q none e a t = by_test (stays (Some e) (entry_with e.key.birth nows)) refl
  where
    here : entry_with e.key.birth olds ≡ Some e
    here = entry-among olds e d a

    has : has_birth (olds ++ nows) e.key.birth ≡ true
    has = let one = among-birth olds e a in has-append olds nows e.key.birth ∙ rw one refl

    by_test : (s : Bool) → stays (Some e) (entry_with e.key.birth nows) ≡ s → Stands nows e
    by_test true s = stays_stands nows e.key.birth e (entry_with e.key.birth nows) refl s
    by_test false s =
        let boxes = moved_old e (entry_with e.key.birth nows) x y s t in
        let all : any_within (boxes_at olds nows e.key.birth) x y ≡ true = ap (λ o. any_within (boxes_of o (entry_with e.key.birth nows)) x y) here ∙ boxes in
        absurd (uncovered olds nows w h x y e.key.birth p q none has all)

nows_stand : (olds nows : List Entry) (w h x y : ℕ) → HasDistinctBirths nows → x < w → y < h
    → covered (damage (Some olds) nows w h) x y ≡ false → AllStand x y nows olds
nows_stand olds nows w h x y d p q none f a t = by_test (stays (entry_with f.key.birth olds) (Some f)) refl
  where
    here : entry_with f.key.birth nows ≡ Some f
    here = entry-among nows f d a

    has : has_birth (olds ++ nows) f.key.birth ≡ true
    has = has-append olds nows f.key.birth ∙ or_right (has_birth olds f.key.birth) (has_birth nows f.key.birth) (among-birth nows f a)

    by_test : (s : Bool) → stays (entry_with f.key.birth olds) (Some f) ≡ s → Stands olds f
    by_test true s = stays_back olds f.key.birth (entry_with f.key.birth olds) f refl s
    by_test false s =
        let boxes = moved_new (entry_with f.key.birth olds) f x y s t in
        let all : any_within (boxes_at olds nows f.key.birth) x y ≡ true = ap (λ o. any_within (boxes_of (entry_with f.key.birth olds) o) x y) here ∙ boxes in
        absurd (uncovered olds nows w h x y f.key.birth p q none has all)

pub same_outside : SameOutside
same_outside olds nows w h x y ro rn do' dn p q none =
    same_pixels (length olds + length nows) x y white olds nows (omega arith) ro rn
    (olds_stand olds nows w h x y do' p q none) (nows_stand olds nows w h x y dn p q none)
