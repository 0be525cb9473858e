-- The first of a falling list is the best, and there is one falling list of all that speaks.
use Rattle.std.proofs.Common.{◌≡◌, ◌<◌, ◌+◌, ℕ, zero, suc, Bool, true, false, cond, not, ◌&&◌, eqb, List, [], ◌∷◌, length, get_or, Option, Some, None, refl, sym, ap, ◌∙◌, subst, inl, inr, arith}
use Rattle.std.specs.Cmp.{IsStrictWeakOrder}
use Rattle.std.specs.List.{Contains, sum_by}
use Rattle.std.specs.List.Sorted.{IsPermutation}
use Rattle.std.proofs.lemmas.Bool.{and_parts, cases_Bool, eqb-true, eq-eqb}
use Rattle.std.proofs.lemmas.List.Sums.{sum_by-cons}
use Rattle.std.proofs.lemmas.List.Sorted.{Contains-permutation, IsPermutation-sym, IsPermutation-trans, sorted_far, sum_by-IsPermutation}
use Rattle.fx_look.specs.declared.styles.CodeValue.{CodeValue}
use Rattle.fx_css_types.specs.declared.sheets.SheetAt.{SheetAt}
use Rattle.fx_css_types.specs.declared.sheets.Candidate.{Candidate}
use Rattle.fx_cascade.specs.declared.sources.Source.{Source}
use Rattle.fx_cascade.specs.declared.sources.Source.TheVariants.{Code, Declared}
use Rattle.fx_cascade.specs.Ranks.{is_below, key}
use Rattle.fx_cascade.specs.Sources.{IsBest, NameEachRuleOnce, Speaks, best_source, sources_for, voices}
use Rattle.fx_cascade.proofs.KeyLemmas.{key_long, precedes-back, precedes-neither, precedes-trans}
use Rattle.fx_cascade.proofs.GreatestLemmas.{In}
use Rattle.fx_cascade.proofs.SpeakLemmas.{listed_speaks, speaks_listed}
use Rattle.fx_cascade.proofs.LawLemmas.{best-none, best-wins, one-best}
use Rattle.fx_explain.proofs.KeptKeys.{same_key}
use Rattle.fx_explain.specs.declared.explained.Explained.{Explained}
use Rattle.fx_explain.specs.Explained.{AreFalling, IsExplained, told_of}

falls : List Candidate → Source → Source → Bool
falls matched one other = is_below matched other one

pub falling_order : (matched : List Candidate) → IsStrictWeakOrder (λ one other. is_below matched other one)
falling_order matched = record {
  one_way = λ x y p. precedes-back (key matched y) (key matched x) p;
  chain = λ x y z p q.
      precedes-trans 8 (key matched x) (key matched y) (key matched z) (key_long matched x) (key_long matched y)
      (key_long matched z) p q;
}

in_contains : (xs : List Source) (x : Source) → In x xs → Contains xs x
in_contains [] x is = absurd is
in_contains (y ∷ ys) x (inl e) = (0, (omega arith), sym e)
in_contains (y ∷ ys) x (inr rest) =
    let c : Contains ys x = in_contains ys x rest in (suc c.0, (omega (arith, c.1)), c.2)

contains_at : (xs : List Source) (k : ℕ) (x : Source) → k < length xs → get_or xs k x ≡ x → In x xs
contains_at [] k x within e = absurd (omega (arith, within))
contains_at (y ∷ ys) zero x within e = inl (sym e)
contains_at (y ∷ ys) (suc k) x within e = inr (contains_at ys k x (omega (arith, within)) e)

contains_in : (xs : List Source) (x : Source) → Contains xs x → In x xs
contains_in xs x c = contains_at xs c.0 x c.1 c.2

-- of a falling list none is above the first
first_above : (matched : List Candidate) (first : Source) (rest : List Source) (other : Source)
    → AreFalling matched (first ∷ rest) → In other (first ∷ rest) → is_below matched first other ≡ false
first_above matched first rest other falling is =
    let c : Contains (first ∷ rest) other = in_contains (first ∷ rest) other is in
    subst (λ (o : Source). is_below matched first o ≡ false) c.2
    (sorted_far (λ one other. is_below matched other one) (falling_order matched) (first ∷ rest) falling 0 c.0 other
    (omega arith) c.1)

-- all that speaks is listed, and all that is listed speaks

order-speaks : (sheets : List SheetAt) (matched : List Candidate) (codes : List CodeValue) (name : List ℕ)
    (order : List Source) → IsPermutation (sources_for name (voices sheets matched codes)) order
    → (s : Source) → In s order → Speaks sheets matched codes name s
order-speaks sheets matched codes name order all s is =
    let sources = sources_for name (voices sheets matched codes) in
    listed_speaks sheets matched codes name s
    (contains_in sources s
    (Contains-permutation order sources s (IsPermutation-sym sources order all) (in_contains order s is)))

speaks-ordered : (sheets : List SheetAt) (matched : List Candidate) (codes : List CodeValue) (name : List ℕ)
    (order : List Source) → IsPermutation (sources_for name (voices sheets matched codes)) order
    → (s : Source) → Speaks sheets matched codes name s → In s order
speaks-ordered sheets matched codes name order all s is =
    let sources = sources_for name (voices sheets matched codes) in
    contains_in order s
    (Contains-permutation sources order s all
    (in_contains sources s (speaks_listed sheets matched codes name s is)))

first-best : (sheets : List SheetAt) (matched : List Candidate) (codes : List CodeValue) (name : List ℕ)
    (first : Source) (rest : List Source)
    → IsPermutation (sources_for name (voices sheets matched codes)) (first ∷ rest)
    → AreFalling matched (first ∷ rest) → IsBest sheets matched codes name first
first-best sheets matched codes name first rest all falling = record {
  speaks = order-speaks sheets matched codes name (first ∷ rest) all first (inl refl);
  none_above = λ other is.
      first_above matched first rest other falling
      (speaks-ordered sheets matched codes name (first ∷ rest) all other is);
}

told-best : (sheets : List SheetAt) (matched : List Candidate) (codes : List CodeValue) (name : List ℕ)
    (order : List Source) (best : Source) → IsPermutation (sources_for name (voices sheets matched codes)) order
    → AreFalling matched order → (told_of matched order).winner ≡ Some best → IsBest sheets matched codes name best
told-best sheets matched codes name [] best all falling e = absurd (cc)
told-best sheets matched codes name (first ∷ rest) best all falling e =
    let same : first ≡ best = cc in
    subst (IsBest sheets matched codes name) same (first-best sheets matched codes name first rest all falling)

pub winner-best : (sheets : List SheetAt) (matched : List Candidate) (codes : List CodeValue) (name : List ℕ)
    (told : Explained) (best : Source) → IsExplained sheets matched codes name told → told.winner ≡ Some best
    → IsBest sheets matched codes name best
winner-best sheets matched codes name told best is e =
    told-best sheets matched codes name is.order best is.complete is.falling
    (sym (ap (λ (t : Explained). t.winner) is.is) ∙ e)

told-same : (sheets : List SheetAt) (matched : List Candidate) (codes : List CodeValue) (name : List ℕ)
    (order : List Source) (o : Option Source) → NameEachRuleOnce matched
    → IsPermutation (sources_for name (voices sheets matched codes)) order → AreFalling matched order
    → best_source sheets matched codes name ≡ o → (told_of matched order).winner ≡ o
told-same sheets matched codes name [] None once all falling e = refl
told-same sheets matched codes name [] (Some best) once all falling e =
    absurd (speaks-ordered sheets matched codes name [] all best (best-wins sheets matched codes name best e).speaks)
told-same sheets matched codes name (first ∷ rest) None once all falling e =
    absurd (best-none sheets matched codes name first e
    (order-speaks sheets matched codes name (first ∷ rest) all first (inl refl)))
told-same sheets matched codes name (first ∷ rest) (Some best) once all falling e =
    ap Some
    (one-best sheets matched codes name first best once
    (first-best sheets matched codes name first rest all falling) (best-wins sheets matched codes name best e))

pub winner-same : (sheets : List SheetAt) (matched : List Candidate) (codes : List CodeValue) (name : List ℕ)
    (told : Explained) → NameEachRuleOnce matched → IsExplained sheets matched codes name told
    → told.winner ≡ best_source sheets matched codes name
winner-same sheets matched codes name told once is =
    ap (λ (t : Explained). t.winner) is.is
    ∙ told-same sheets matched codes name is.order (best_source sheets matched codes name) once is.complete is.falling
    refl

-- two lists of the same are told apart by their counts

is_source : Source → Source → Bool
is_source (Code a) (Code b) = cond a b (not b)
is_source (Declared a p) (Declared b q) = eqb a b && eqb p q
is_source one other = false

is_source_same : (s : Source) → is_source s s ≡ true
unfolding is_source
is_source_same (Code true) = refl
is_source_same (Code false) = refl
is_source_same (Declared a p) = ap (λ (t : Bool). t && eqb p p) (eq-eqb a a refl) ∙ eq-eqb p p refl

is_source_true : (s t : Source) → is_source s t ≡ true → s ≡ t
unfolding is_source
is_source_true (Code true) (Code true) e = refl
is_source_true (Code false) (Code false) e = refl
is_source_true (Code true) (Code false) e = absurd (cc)
is_source_true (Code false) (Code true) e = absurd (cc)
is_source_true (Code a) (Declared b q) e = absurd (cc)
is_source_true (Declared a p) (Code b) e = absurd (cc)
is_source_true (Declared a p) (Declared b q) e =
    let both = and_parts (eqb a b) (eqb p q) e in
    ap (λ (n : ℕ). Declared n p) (eqb-true a b both.0) ∙ ap (Declared b) (eqb-true p q both.1)

counted : Source → Source → ℕ
counted one other = cond (is_source one other) 1 0

counted_in : (s : Source) (ys : List Source) → 0 < sum_by (counted s) ys → In s ys
unfolding counted
counted_in s [] more = absurd (omega (arith, more))
counted_in s (y ∷ ys) more = elim (cases_Bool (is_source s y)) [
  | inl same ↦ inl (is_source_true s y same)
  | inr other ↦
      let e : sum_by (counted s) (y ∷ ys) ≡ counted s y + sum_by (counted s) ys = sum_by-cons (counted s) y ys in
      let none : counted s y ≡ 0 = ap (λ (t : Bool). cond t 1 0) other in
      inr (counted_in s ys (omega (arith, more, e, none)))
]

SameCounts : List Source → List Source → Type 0
SameCounts xs ys = (f : Source → ℕ) → sum_by f xs ≡ sum_by f ys

counts_in : (x : Source) (xs ys : List Source) → SameCounts (x ∷ xs) ys → In x ys
unfolding SameCounts counted
counts_in x xs ys same =
    let e : sum_by (counted x) (x ∷ xs) ≡ counted x x + sum_by (counted x) xs = sum_by-cons (counted x) x xs in
    let one : counted x x ≡ 1 = ap (λ (t : Bool). cond t 1 0) (is_source_same x) in
    let s : sum_by (counted x) (x ∷ xs) ≡ sum_by (counted x) ys = same (counted x) in
    counted_in x ys (omega (arith, e, one, s))

counts_rest : (x y : Source) (xs ys : List Source) → x ≡ y → SameCounts (x ∷ xs) (y ∷ ys) → SameCounts xs ys
unfolding SameCounts
counts_rest x y xs ys e same = λ f.
    let a : sum_by f (x ∷ xs) ≡ f x + sum_by f xs = sum_by-cons f x xs in
    let b : sum_by f (y ∷ ys) ≡ f y + sum_by f ys = sum_by-cons f y ys in
    let c : f x ≡ f y = ap f e in
    let d : sum_by f (x ∷ xs) ≡ sum_by f (y ∷ ys) = same f in
    omega (arith, a, b, c, d)

falling_rest : (matched : List Candidate) (x : Source) (xs : List Source) → AreFalling matched (x ∷ xs)
    → AreFalling matched xs
falling_rest matched x xs falling = λ k d low within.
    let e : suc k + 1 ≡ suc (k + 1) = omega arith in
    subst (λ (n : ℕ). is_below matched (get_or (x ∷ xs) (suc k) d) (get_or (x ∷ xs) n d) ≡ false) e
    (falling (suc k) d (omega arith) (omega (arith, within)))

-- all of these speak
AllSpeak : List SheetAt → List Candidate → List CodeValue → List ℕ → List Source → Type 0
AllSpeak sheets matched codes name xs = (s : Source) → In s xs → Speaks sheets matched codes name s

one-order : (sheets : List SheetAt) (matched : List Candidate) (codes : List CodeValue) (name : List ℕ)
    (xs ys : List Source) → NameEachRuleOnce matched → AllSpeak sheets matched codes name xs
    → AllSpeak sheets matched codes name ys → AreFalling matched xs → AreFalling matched ys → SameCounts xs ys
    → SameCounts ys xs → xs ≡ ys
unfolding AllSpeak
one-order sheets matched codes name [] [] once a b p q there back = refl
one-order sheets matched codes name [] (y ∷ ys) once a b p q there back = absurd (counts_in y ys [] back)
one-order sheets matched codes name (x ∷ xs) [] once a b p q there back = absurd (counts_in x xs [] there)
one-order sheets matched codes name (x ∷ xs) (y ∷ ys) once a b p q there back =
    let same : x ≡ y =
    same_key sheets matched codes name x y once (a x (inl refl)) (b y (inl refl))
    (precedes-neither 8 (key matched x) (key matched y) (key_long matched x) (key_long matched y)
    (first_above matched x xs y p (counts_in y ys (x ∷ xs) back))
    (first_above matched y ys x q (counts_in x xs (y ∷ ys) there))) in
    ap (λ (s : Source). s ∷ xs) same
    ∙ ap (λ (l : List Source). y ∷ l)
    (one-order sheets matched codes name xs ys once (λ s is. a s (inr is)) (λ s is. b s (inr is))
    (falling_rest matched x xs p) (falling_rest matched y ys q) (counts_rest x y xs ys same there)
    (counts_rest y x ys xs (sym same) back))

same_counts : (xs ys : List Source) → IsPermutation xs ys → SameCounts xs ys
unfolding SameCounts
same_counts xs ys all = λ f. sym (sum_by-IsPermutation f xs ys all)

pub one-explanation : (sheets : List SheetAt) (matched : List Candidate) (codes : List CodeValue) (name : List ℕ)
    (told other : Explained) → NameEachRuleOnce matched → IsExplained sheets matched codes name told
    → IsExplained sheets matched codes name other → told ≡ other
unfolding AllSpeak
one-explanation sheets matched codes name told other once a b =
    let sources = sources_for name (voices sheets matched codes) in
    let there : IsPermutation a.order b.order =
    IsPermutation-trans a.order sources b.order (IsPermutation-sym sources a.order a.complete) b.complete in
    a.is
    ∙ ap (told_of matched)
    (one-order sheets matched codes name a.order b.order once
    (order-speaks sheets matched codes name a.order a.complete)
    (order-speaks sheets matched codes name b.order b.complete) a.falling b.falling
    (same_counts a.order b.order there)
    (same_counts b.order a.order (IsPermutation-sym a.order b.order there)))
    ∙ sym b.is
