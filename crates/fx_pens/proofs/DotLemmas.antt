-- Counting the columns that pass a test, and laying dots over a row one after another.
use Rattle.std.proofs.Common.{◌≡◌, ◌<◌, ◌≤◌, ◌+◌, ◌-◌, ◌&&◌, ◌||◌, ℕ, suc, zero, Bool, true, false, cond, List, ◌∷◌, get_or, refl, sym, ap, ◌∙◌, arith, inl, inr, leb, ◌⊎◌}
use Rattle.std.specs.Prelude.{count_by}
use Rattle.std.specs.List.{range_with_len}
use Rattle.std.proofs.lemmas.Bool.Decides.{leb_tells, nat_tests}
use Rattle.std.proofs.lemmas.List.Sums.{sum_by-cons}
use Rattle.fx_base.specs.Pixel.{blended}
use Rattle.fx_pens.specs.declared.spans.Pen.{Pen}
use Rattle.fx_pens.specs.Dots.{IsLaid, count_in, is_in}

count-cons : (p : ℕ → Bool) (x : ℕ) (xs : List ℕ) → count_by p (x ∷ xs) ≡ cond (p x) 1 0 + count_by p xs
count-cons p x xs = sum_by-cons (λ y. cond (p y) 1 0) x xs

-- ---- tests that agree, and tests that never both hold
pub count-same : (p q : ℕ → Bool) (from n : ℕ) → ((x : ℕ) → from ≤ x → x < from + n → p x ≡ q x)
    → count_by p (range_with_len from n) ≡ count_by q (range_with_len from n)
count-same p q from zero h = refl
count-same p q from (suc n) h =
    let here : p from ≡ q from = h from (omega arith) (omega arith) in
    let rest = count-same p q (from + 1) n (λ x a b. h x (omega (arith, a)) (omega (arith, b))) in
    count-cons p from (range_with_len (from + 1) n)
    ∙ (ap (λ t. cond t 1 0 + count_by p (range_with_len (from + 1) n)) here
    ∙ (ap (λ m. cond (q from) 1 0 + m) rest ∙ sym (count-cons q from (range_with_len (from + 1) n))))

split_one : (a b : Bool) → (a && b) ≡ false → (m k : ℕ) → cond (a || b) 1 0 + (m + k) ≡ (cond a 1 0 + m) + (cond b 1 0 + k)
split_one true true h m k = cc
split_one true false h m k = omega arith
split_one false true h m k = omega arith
split_one false false h m k = omega arith

pub count-either : (p q : ℕ → Bool) (from n : ℕ) → ((x : ℕ) → from ≤ x → x < from + n → (p x && q x) ≡ false)
    → count_by (λ x. p x || q x) (range_with_len from n) ≡ count_by p (range_with_len from n) + count_by q (range_with_len from n)
count-either p q from zero h = refl
count-either p q from (suc n) h =
    let apart : (p from && q from) ≡ false = h from (omega arith) (omega arith) in
    let rest = count-either p q (from + 1) n (λ x a b. h x (omega (arith, a)) (omega (arith, b))) in
    count-cons (λ x. p x || q x) from (range_with_len (from + 1) n)
    ∙ (ap (λ m. cond (p from || q from) 1 0 + m) rest
    ∙ (split_one (p from) (q from) apart (count_by p (range_with_len (from + 1) n)) (count_by q (range_with_len (from + 1) n))
    ∙ (ap (λ m. m + (cond (q from) 1 0 + count_by q (range_with_len (from + 1) n))) (sym (count-cons p from (range_with_len (from + 1) n)))
    ∙ ap (λ m. count_by p (from ∷ range_with_len (from + 1) n) + m) (sym (count-cons q from (range_with_len (from + 1) n))))))

pub count-none : (from n : ℕ) → count_by (λ x. false) (range_with_len from n) ≡ 0
count-none from zero = refl
count-none from (suc n) = let c = count-cons (λ x. false) from (range_with_len (from + 1) n) in let r = count-none (from + 1) n in omega (arith, c, r)

-- ---- a span
pub in_true : (from to x : ℕ) → from ≤ x → x < to → is_in from to x ≡ true
in_true from to x a b = grind (arith, nat_tests)

in_low : (from to x : ℕ) → x < from → is_in from to x ≡ false
in_low from to x a = grind (arith, nat_tests)

in_high : (from to x : ℕ) → to ≤ x → is_in from to x ≡ false
in_high from to x a = grind (arith, nat_tests)

count-high : (from to start n : ℕ) → to ≤ start → count_by (is_in from to) (range_with_len start n) ≡ 0
count-high from to start n h = count-same (is_in from to) (λ x. false) start n (λ x a b. in_high from to x (omega (arith, a))) ∙ count-none start n

-- from the first column of the span on
count-among : (from to start n : ℕ) → from ≤ start → start ≤ to → to ≤ start + n → count_by (is_in from to) (range_with_len start n) ≡ to - start
count-among from to start zero a b c = omega arith
count-among from to start (suc n) a b c = elim (leb_tells to start) [
  | inl t ↦ count-high from to start (suc n) t.1 ∙ omega (arith, t.1)
  | inr t ↦ (
      let here : is_in from to start ≡ true = in_true from to start a t.1 in
      let rest = count-among from to (start + 1) n (omega arith) (omega (arith, t.1)) (omega (arith, c)) in
      count-cons (is_in from to) start (range_with_len (start + 1) n) ∙ (ap (λ u. cond u 1 0 + count_by (is_in from to) (range_with_len (start + 1) n)) here
      ∙ (ap (λ m. 1 + m) rest ∙ omega (arith, t.1))))
]

count-span : (from to start n : ℕ) → start ≤ from → from ≤ to → to ≤ start + n → count_by (is_in from to) (range_with_len start n) ≡ to - from
count-span from to start zero a b c = omega arith
count-span from to start (suc n) a b c = elim (leb_tells from start) [
  | inl t ↦ (let same : start ≡ from = omega (arith, t.1) in count-among from to start (suc n) t.1 (omega (arith, same)) c ∙ ap (λ m. to - m) same)
  | inr t ↦ (
      let here : is_in from to start ≡ false = in_low from to start t.1 in
      let rest = count-span from to (start + 1) n (omega (arith, t.1)) b (omega (arith, c)) in
      let first : count_by (is_in from to) (start ∷ range_with_len (start + 1) n) ≡ 0 + count_by (is_in from to) (range_with_len (start + 1) n) =
      count-cons (is_in from to) start (range_with_len (start + 1) n) ∙ ap (λ u. cond u 1 0 + count_by (is_in from to) (range_with_len (start + 1) n)) here in
      omega (arith, first, rest))
]

pub span_count : (from to left right : ℕ) → left ≤ from → from ≤ to → to ≤ right → count_in (is_in from to) left right ≡ to - from
span_count from to left right a b c = count-span from to left (right - left) a b (omega arith)

-- ---- dots
pub laid-same : (pen : Pen) (dots others : ℕ → Bool) (old new : List ℕ) (before after : ℕ)
    → ((x : ℕ) → pen.left ≤ x → x < pen.right → dots x ≡ others x) → pen.left ≤ pen.right
    → IsLaid pen dots old new before after → IsLaid pen others old new before after
laid-same pen dots others old new before after h r l = record {
  long = l.long;
  pixels = λ x b. l.pixels x b ∙ test x (leb_tells pen.left x) (leb_tells (suc x) pen.right);
  count = l.count ∙ ap (λ m. before + m) (count-same dots others pen.left (pen.right - pen.left) (λ x a b. h x a (omega (arith, b, r))));
}
  where
    test : (x : ℕ) → ((leb pen.left x ≡ true) × (pen.left ≤ x)) ⊎ ((leb pen.left x ≡ false) × (x < pen.left))
        → ((leb (suc x) pen.right ≡ true) × (suc x ≤ pen.right)) ⊎ ((leb (suc x) pen.right ≡ false) × (pen.right < suc x))
        → cond (is_in pen.left pen.right x && dots x) (blended pen.color (get_or old x 0)) (get_or old x 0)
        ≡ cond (is_in pen.left pen.right x && others x) (blended pen.color (get_or old x 0)) (get_or old x 0)
    test x (inl a) (inl b) = ap (λ t. cond (is_in pen.left pen.right x && t) (blended pen.color (get_or old x 0)) (get_or old x 0)) (h x a.1 (omega (arith, b.1)))
    test x (inl a) (inr b) = let out = in_high pen.left pen.right x (omega (arith, b.1)) in rw out refl
    test x (inr a) u = let out = in_low pen.left pen.right x a.1 in rw out refl

lay_twice : (i a b : Bool) (f : ℕ → ℕ) (u : ℕ) → (i ≡ true → (a && b) ≡ false) → cond (i && b) (f (cond (i && a) (f u) u)) (cond (i && a) (f u) u) ≡ cond (i && (a || b)) (f u) u
lay_twice true true true f u h = cc (h refl)
lay_twice true true false f u h = refl
lay_twice true false true f u h = refl
lay_twice true false false f u h = refl
lay_twice false a b f u h = refl

pub laid-then : (pen : Pen) (first second : ℕ → Bool) (old mid new : List ℕ) (p q r : ℕ) → pen.left ≤ pen.right
    → ((x : ℕ) → pen.left ≤ x → x < pen.right → (first x && second x) ≡ false)
    → IsLaid pen first old mid p q → IsLaid pen second mid new q r → IsLaid pen (λ x. first x || second x) old new p r
laid-then pen first second old mid new p q r rises apart l m = record {
  long = m.long ∙ l.long;
  pixels = λ x b. m.pixels x (rw l.long b)
      ∙ (ap (λ u. cond (is_in pen.left pen.right x && second x) (blended pen.color u) u) (l.pixels x b)
      ∙ lay_twice (is_in pen.left pen.right x) (first x) (second x) (blended pen.color) (get_or old x 0) (λ e. apart x (left_of x e) (right_of x e)));
  count = m.count ∙ (ap (λ n. n + count_in second pen.left pen.right) l.count
      ∙ (plus_assoc p (count_in first pen.left pen.right) (count_in second pen.left pen.right)
      ∙ ap (λ n. p + n) (sym (count-either first second pen.left (pen.right - pen.left) (λ x a b. apart x a (omega (arith, b, rises)))))));
}
  where
    left_of : (x : ℕ) → is_in pen.left pen.right x ≡ true → pen.left ≤ x
    left_of x e = grind (arith, nat_tests)

    right_of : (x : ℕ) → is_in pen.left pen.right x ≡ true → x < pen.right
    right_of x e = grind (arith, nat_tests)

    plus_assoc : (a b c : ℕ) → (a + b) + c ≡ a + (b + c)
    plus_assoc a b c = omega arith

pub laid-none : (pen : Pen) (dots : ℕ → Bool) (row : List ℕ) (p : ℕ) → pen.left ≤ pen.right
    → ((x : ℕ) → pen.left ≤ x → x < pen.right → dots x ≡ false) → IsLaid pen dots row row p p
laid-none pen dots row p rises h = laid-same pen (λ x. false) dots row row p p (λ x a b. sym (h x a b)) rises (record {
  long = refl;
  pixels = λ x b. nothing (is_in pen.left pen.right x) (blended pen.color (get_or row x 0)) (get_or row x 0);
  count = let none = count-none pen.left (pen.right - pen.left) in rw none (omega arith);
})
  where
    nothing : (t : Bool) (u v : ℕ) → v ≡ cond (t && false) u v
    nothing true u v = refl
    nothing false u v = refl
