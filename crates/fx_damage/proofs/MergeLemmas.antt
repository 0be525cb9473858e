-- Two pictures in pre-order show the same at a point, if each entry that shows there in one stands in the other too.
use Rattle.std.proofs.Common.{◌≡◌, ◌≤◌, ◌+◌, ◌⊎◌, ◌||◌, ℕ, suc, zero, Bool, true, false, cond, List, [], ◌∷◌, length, refl, sym, ap, subst, ◌∙◌, inl, inr, arith}
use Rattle.std.specs.Prelude.{All}
use Rattle.std.specs.Cmp.Lexicographic.{slice_cmp}
use Rattle.std.specs.List.{list_any}
use Rattle.std.specs.Ordering.{nat_cmp, ordering_reverse, is_eq}
use Rattle.std.specs.declared.cmp.Ordering.{Ordering}
use Rattle.std.specs.declared.cmp.Ordering.TheVariants.{Less, Equal, Greater}
use Rattle.std.proofs.lemmas.Cmp.{nat_list_cmp_total}
use Rattle.std.proofs.lemmas.List.Elements.{All-head, All-tail, All-nil, All-cons, All-weaker}
use Rattle.std.proofs.lemmas.Map.Text.{is_eq-slice_cmp}
use Rattle.std.proofs.lemmas.Slice.Eq.{bytes_eq-Decides}
use Rattle.fx_picture.specs.declared.entries.Entry.{Entry}
use Rattle.fx_picture.specs.declared.shapes.Shape.{Shape}
use Rattle.fx_picture.proofs.PixelLemmas.{over-append}
use Rattle.fx_picture.specs.Entries.{IsBefore, Rises}
use Rattle.fx_picture.specs.Pixels.{over, shapes_of}
use Rattle.fx_base.specs.Pixel.{blended}
use Rattle.fx_picture.specs.Shapes.{color_of, holds}

-- ---- shapes at a point
-- whether a shape of the entry holds the point
abbrev pub touches : ℕ → ℕ → Entry → Bool
touches x y e = list_any (λ s. holds s x y) e.shapes

over_missed : (x y u : ℕ) (ss : List Shape) → list_any (λ s. holds s x y) ss ≡ false → over x y u ss ≡ u
over_missed x y u [] h = refl
over_missed x y u (s ∷ ss) h = missed (holds s x y) h (λ r. over_missed x y u ss r)
  where
    missed : (t : Bool) → (t || list_any (λ r. holds r x y) ss) ≡ false → (list_any (λ r. holds r x y) ss ≡ false → over x y u ss ≡ u)
        → over x y (cond t (blended (color_of s) u) u) ss ≡ u
    missed true h go = cc
    missed false h go = go h

skipped : (x y u : ℕ) (e : Entry) (es : List Entry) → touches x y e ≡ false → over x y u (shapes_of (e ∷ es)) ≡ over x y u (shapes_of es)
skipped x y u e es h = over-append x y u e.shapes (shapes_of es) ∙ ap (λ c. over x y c (shapes_of es)) (over_missed x y u e.shapes h)

-- ---- order of paths
before-trans : (e f g : Entry) → IsBefore e f → IsBefore f g → IsBefore e g
before-trans e f g p q = nat_list_cmp_total.trans e.path f.path g.path p q

not_itself : (e f : Entry) → f.path ≡ e.path → IsBefore e f → ⊥
not_itself e f same p =
    let P : List ℕ → Type 0 = λ q. slice_cmp nat_cmp e.path q ≡ Less in
    let back = nat_list_cmp_total.antisymm e.path e.path in
    let here : slice_cmp nat_cmp e.path e.path ≡ Less = subst P same p in
    cc (sym here ∙ (back ∙ ap ordering_reverse here))

turned : (e f : Entry) → slice_cmp nat_cmp e.path f.path ≡ Greater → IsBefore f e
turned e f h = nat_list_cmp_total.antisymm f.path e.path ∙ ap ordering_reverse h

same_path : (e f : Entry) → slice_cmp nat_cmp e.path f.path ≡ Equal → e.path ≡ f.path
same_path e f h = (bytes_eq-Decides e.path f.path).0 (sym (is_eq-slice_cmp e.path f.path) ∙ ap is_eq h)

-- ---- membership
abbrev pub Among : List Entry → Entry → Type 0
Among [] e = ⊥
Among (f ∷ fs) e = (f ≡ e) ⊎ Among fs e

all_among : (P : Entry → Type 0) (es : List Entry) (e : Entry) → All P es → Among es e → P e
all_among P [] e h a = absurd a
all_among P (f ∷ fs) e h a = elim a [
  | inl same ↦ subst P same (All-head P f fs h)
  | inr more ↦ all_among P fs e (All-tail P f fs h) more
]

-- an entry of the list has the same path and the same shapes
pub record Stands (fs : List Entry) (e : Entry) : Type 0 where
  pub entry : Entry
  pub among : Among fs entry
  pub path : entry.path ≡ e.path
  pub shapes : entry.shapes ≡ e.shapes

abbrev pub AllStand : ℕ → ℕ → List Entry → List Entry → Type 0
AllStand x y es fs = (e : Entry) → Among es e → touches x y e ≡ true → Stands fs e

-- an entry before all of a list stands nowhere in it
stands_nowhere : (e : Entry) (fs : List Entry) → All (IsBefore e) fs → Stands fs e → ⊥
stands_nowhere e fs h s = not_itself e s.entry s.path (all_among (IsBefore e) fs s.entry h s.among)

missed_by : (x y : ℕ) (e : Entry) (fs : List Entry) → All (IsBefore e) fs → (touches x y e ≡ true → Stands fs e) → touches x y e ≡ false
missed_by x y e fs h s = tested (touches x y e) refl
  where
    tested : (t : Bool) → touches x y e ≡ t → t ≡ false
    tested true q = absurd (stands_nowhere e fs h (s q))
    tested false q = refl

-- what stands in a list stands behind a head that it is not
narrow : (e : Entry) (es : List Entry) (g : Entry) → (e.path ≡ g.path → ⊥) → Stands (e ∷ es) g → Stands es g
narrow e es g other s = elim s.among [
  | inl same ↦ absurd (other (ap (λ (f : Entry). f.path) same ∙ s.path))
  | inr more ↦ record { entry = s.entry; among = more; path = s.path; shapes = s.shapes }
]

all_before : (e f : Entry) (fs : List Entry) → IsBefore e f → All (IsBefore f) fs → (g : Entry) → Among (f ∷ fs) g → IsBefore e g
all_before e f fs p h g a = elim a [
  | inl same ↦ (let P : Entry → Type 0 = λ k. IsBefore e k in subst P same p)
  | inr more ↦ before-trans e f g p (all_among (IsBefore f) fs g h more)
]

-- a list of entries that an entry is before
rest_stands : (x y : ℕ) (e : Entry) (es fs : List Entry) → ((g : Entry) → Among fs g → IsBefore e g) → AllStand x y fs (e ∷ es) → AllStand x y fs es
rest_stands x y e es fs h s g a t = narrow e es g (λ same. not_itself e g (sym same) (h g a)) (s g a t)

-- ---- one picture's head comes first
alone : (x y u : ℕ) (e : Entry) (es fs : List Entry) → All (IsBefore e) fs → AllStand x y (e ∷ es) fs
    → over x y u (shapes_of (e ∷ es)) ≡ over x y u (shapes_of es)
alone x y u e es fs h s = skipped x y u e es (missed_by x y e fs h (λ t. s e (inl refl) t))

before_all : (e f : Entry) (fs : List Entry) → IsBefore e f → All (IsBefore f) fs → All (IsBefore e) (f ∷ fs)
before_all e f fs p h = All-cons (IsBefore e) f fs p (All-weaker (IsBefore f) (IsBefore e) (λ g q. before-trans e f g p q) fs h)

-- ---- the heads have one path
head_stands : (f : Entry) (fs : List Entry) (e : Entry) → All (IsBefore f) fs → e.path ≡ f.path → Stands (f ∷ fs) e → f.shapes ≡ e.shapes
head_stands f fs e h same s = elim s.among [
  | inl here ↦ ap (λ (g : Entry). g.shapes) here ∙ s.shapes
  | inr more ↦ absurd (not_itself f s.entry (s.path ∙ same) (all_among (IsBefore f) fs s.entry h more))
]

pair_shows : (x y u : ℕ) (e f : Entry) (es fs : List Entry) → e.path ≡ f.path → All (IsBefore e) es → All (IsBefore f) fs
    → AllStand x y (e ∷ es) (f ∷ fs) → AllStand x y (f ∷ fs) (e ∷ es) → over x y u e.shapes ≡ over x y u f.shapes
pair_shows x y u e f es fs same he hf s t = shown (touches x y e) (touches x y f) refl refl
  where
    shown : (a b : Bool) → touches x y e ≡ a → touches x y f ≡ b → over x y u e.shapes ≡ over x y u f.shapes
    shown true b p q = ap (over x y u) (sym (head_stands f fs e hf same (s e (inl refl) p)))
    shown false true p q = ap (over x y u) (head_stands e es f he (sym same) (t f (inl refl) q))
    shown false false p q = over_missed x y u e.shapes p ∙ sym (over_missed x y u f.shapes q)

tail_stands : (x y : ℕ) (e f : Entry) (es fs : List Entry) → e.path ≡ f.path → All (IsBefore e) es
    → AllStand x y (e ∷ es) (f ∷ fs) → AllStand x y es fs
tail_stands x y e f es fs same he s g a t =
    narrow f fs g (λ here. not_itself e g (sym (same ∙ here)) (all_among (IsBefore e) es g he a)) (s g (inr a) t)

-- a step of the merge, by the order of the two heads
by_order : (x y u : ℕ) (e f : Entry) (es fs : List Entry) → Rises (e ∷ es) → Rises (f ∷ fs)
    → AllStand x y (e ∷ es) (f ∷ fs) → AllStand x y (f ∷ fs) (e ∷ es)
    → (o : Ordering) → slice_cmp nat_cmp e.path f.path ≡ o
    → (IsBefore e f → over x y u (shapes_of es) ≡ over x y u (shapes_of (f ∷ fs)))
    → (IsBefore f e → over x y u (shapes_of (e ∷ es)) ≡ over x y u (shapes_of fs))
    → ((v : ℕ) → e.path ≡ f.path → over x y v (shapes_of es) ≡ over x y v (shapes_of fs))
    → over x y u (shapes_of (e ∷ es)) ≡ over x y u (shapes_of (f ∷ fs))
by_order x y u e f es fs re rf s t Less q left right both =
    alone x y u e es (f ∷ fs) (before_all e f fs q rf.0) s ∙ left q
by_order x y u e f es fs re rf s t Greater q left right both =
    let turn = turned e f q in
    right turn ∙ sym (alone x y u f fs (e ∷ es) (before_all f e es turn re.0) t)
by_order x y u e f es fs re rf s t Equal q left right both =
    let same = same_path e f q in
    over-append x y u e.shapes (shapes_of es)
    ∙ (ap (λ c. over x y c (shapes_of es)) (pair_shows x y u e f es fs same re.0 rf.0 s t)
    ∙ (both (over x y u f.shapes) same
    ∙ sym (over-append x y u f.shapes (shapes_of fs))))

-- the law of the merge; n bounds both lengths, of which neither alone falls
pub same_pixels : (n x y u : ℕ) (es fs : List Entry) → length es + length fs ≤ n → Rises es → Rises fs
    → AllStand x y es fs → AllStand x y fs es → over x y u (shapes_of es) ≡ over x y u (shapes_of fs)
same_pixels n x y u [] [] b re rf s t = refl
same_pixels zero x y u (e ∷ es) fs b re rf s t = absurd (omega (arith, b))
same_pixels zero x y u [] (f ∷ fs) b re rf s t = absurd (omega (arith, b))
same_pixels (suc n) x y u (e ∷ es) [] b re rf s t =
    alone x y u e es [] (All-nil (IsBefore e)) s
    ∙ same_pixels n x y u es [] (omega (arith, b)) re.1 rf (λ g a q. s g (inr a) q) (λ g a q. absurd a)
same_pixels (suc n) x y u [] (f ∷ fs) b re rf s t =
    sym (alone x y u f fs [] (All-nil (IsBefore f)) t
    ∙ same_pixels n x y u fs [] (omega (arith, b)) rf.1 re (λ g a q. t g (inr a) q) (λ g a q. absurd a))
same_pixels (suc n) x y u (e ∷ es) (f ∷ fs) b re rf s t =
    by_order x y u e f es fs re rf s t (slice_cmp nat_cmp e.path f.path) refl
    (λ q. same_pixels n x y u es (f ∷ fs) (omega (arith, b)) re.1 rf (λ g a p. s g (inr a) p)
    (rest_stands x y e es (f ∷ fs) (all_before e f fs q rf.0) t))
    (λ q. same_pixels n x y u (e ∷ es) fs (omega (arith, b)) re rf.1
    (rest_stands x y f fs (e ∷ es) (all_before f e es q re.0) s) (λ g a p. t g (inr a) p))
    (λ v same. same_pixels n x y v es fs (omega (arith, b)) re.1 rf.1
    (tail_stands x y e f es fs same re.0 s) (tail_stands x y f e fs es (sym same) rf.0 t))
