-- What a function gives at the numbers of a range, in their order.
use Rattle.std.proofs.Common.{◌≡◌, ℕ, zero, suc, ◌+◌, ◌<◌, ◌≤◌, Bool, true, false, cond, List, [], ◌∷◌, ◌++◌, length, Option, Some, None, filter, Contains, AllPairs, refl, ◌∙◌, ap, inl, inr, arith}
use Rattle.std.specs.List.{filter_map, cons_option, range_with_len}
use Rattle.std.proofs.lemmas.Bool.{cases_eq}
use Rattle.std.proofs.lemmas.List.Elements.{All-contains_itself, All-weaker}
use Rattle.std.proofs.lemmas.List.Kept.{AllPairs-cons}
use Rattle.slab.proofs.SlabLemmas.{Contains-cons, Contains-cons_cases}

-- a range ends with its last number
pub range_with_len-suc : (from n : ℕ) → range_with_len from (suc n) ≡ range_with_len from n ++ (from + n) ∷ []
range_with_len-suc from zero = let e : from + 0 ≡ from = omega arith in rw e refl
range_with_len-suc from (suc n) =
    let e : from + 1 + n ≡ from + suc n = omega arith in
    ap (λ (rest : List ℕ). from ∷ rest)
    (range_with_len-suc (from + 1) n ∙ ap (λ (last : ℕ). range_with_len (from + 1) n ++ last ∷ []) e)

module _ {X : Type 0} where
  -- what is passed over keeps an element
  Contains-cons_option : (o : Option X) (rest : List X) (x : X) → Contains rest x → Contains (cons_option o rest) x
  Contains-cons_option None rest x there = there
  Contains-cons_option (Some y) rest x there = Contains-cons y x rest there

  -- functions that agree on the range give the same
  pub filter_map-same : (f g : ℕ → Option X) (from n : ℕ)
      → ((k : ℕ) → from ≤ k → k < from + n → g k ≡ f k)
      → filter_map g (range_with_len from n) ≡ filter_map f (range_with_len from n)
  filter_map-same f g from zero same = refl
  filter_map-same f g from (suc n) same =
      let rest : filter_map g (range_with_len (from + 1) n) ≡ filter_map f (range_with_len (from + 1) n) =
      filter_map-same f g (from + 1) n (λ k low high. same k (omega (arith, low)) (omega (arith, high))) in
      rw (same from (omega arith) (omega arith), rest) refl

  -- what is given at a number of the range is among what is given
  pub Contains-given : (f : ℕ → Option X) (from n at : ℕ) (x : X)
      → from ≤ at → at < from + n → f at ≡ Some x → Contains (filter_map f (range_with_len from n)) x
  Contains-given f from zero at x low high is = absurd (omega (arith, low, high))
  Contains-given f from (suc n) at x low high is =
      elim (cases_eq from at) [
        | inl here ↦ rw (ap f here ∙ is) (0, omega arith, refl)
        | inr other ↦
            Contains-cons_option (f from) _ x (Contains-given f (from + 1) n at x (omega (arith, low, other)) (omega (arith, high)) is)
      ]

  -- each element is given at some number of the range
  pub given_at : (f : ℕ → Option X) (from n : ℕ) (x : X)
      → Contains (filter_map f (range_with_len from n)) x → (at : ℕ) × (from ≤ at) × (f at ≡ Some x)
  given_at f from zero x there = absurd (omega (arith, there.1))
  given_at f from (suc n) x there =
      by_head (f from) refl there
      (λ rest. let found = given_at f (from + 1) n x rest in (found.0, omega (arith, found.1), found.2))
    where
      by_head : (o : Option X) → f from ≡ o → Contains (cons_option o (filter_map f (range_with_len (from + 1) n))) x
          → (Contains (filter_map f (range_with_len (from + 1) n)) x → (at : ℕ) × (from ≤ at) × (f at ≡ Some x))
          → (at : ℕ) × (from ≤ at) × (f at ≡ Some x)
      by_head None is at later = later at
      by_head (Some y) is at later =
          elim (Contains-cons_cases y x _ at) [
            | inl same ↦ (from, omega arith, is ∙ ap Some same)
            | inr rest ↦ later rest
          ]

  -- a relation between what is given at a number and at each later one
  pub AllPairs-given : (R : X → X → Type 0) (f : ℕ → Option X) (from n : ℕ)
      → ((i j : ℕ) (x y : X) → i < j → f i ≡ Some x → f j ≡ Some y → R x y)
      → AllPairs R (filter_map f (range_with_len from n))
  AllPairs-given R f from zero related = λ i j d before within. absurd (omega (arith, within))
  AllPairs-given R f from (suc n) related = by_head (f from) refl (AllPairs-given R f (from + 1) n related)
    where
      by_head : (o : Option X) → f from ≡ o → AllPairs R (filter_map f (range_with_len (from + 1) n))
          → AllPairs R (cons_option o (filter_map f (range_with_len (from + 1) n)))
      by_head None is rest = rest
      by_head (Some x) is rest =
          AllPairs-cons R x _
          (All-weaker _ _
          (λ y there. let found = given_at f (from + 1) n y there in related from found.0 x y (omega (arith, found.1)) is found.2)
          _
          (All-contains_itself _))
          rest

  -- a test after the function
  abbrev pub kept_of : (X → Bool) → Option X → Option X
  kept_of test None = None
  kept_of test (Some x) = cond (test x) (Some x) None

  -- to filter what is given is to give only what passes
  pub filter_map-kept : (f g : ℕ → Option X) (test : X → Bool) (ks : List ℕ)
      → ((k : ℕ) → g k ≡ kept_of test (f k))
      → filter_map g ks ≡ filter test (filter_map f ks)
  filter_map-kept f g test [] kept = refl
  filter_map-kept f g test (k ∷ ks) kept = rw (kept k, filter_map-kept f g test ks kept) (by_head (f k) (filter_map f ks))
    where
      by_test : (b : Bool) (x : X) (rest : List X) → cons_option (cond b (Some x) None) rest ≡ cond b (x ∷ rest) rest
      by_test true x rest = refl
      by_test false x rest = refl

      by_head : (o : Option X) (rest : List X) → cons_option (kept_of test o) (filter test rest) ≡ filter test (cons_option o rest)
      by_head None rest = refl
      by_head (Some x) rest = by_test (test x) x (filter test rest)

  -- a function that gives nothing at one number of the range gives one less
  pub length-given_less : (f g : ℕ → Option X) (from n at : ℕ) (x : X)
      → from ≤ at → at < from + n → f at ≡ Some x → g at ≡ None → ((k : ℕ) → (k ≡ at → ⊥) → g k ≡ f k)
      → length (filter_map g (range_with_len from n)) + 1 ≡ length (filter_map f (range_with_len from n))
  length-given_less f g from zero at x low high is none same = absurd (omega (arith, low, high))
  length-given_less f g from (suc n) at x low high is none same =
      elim (cases_eq from at) [
        | inl here ↦
            let rest : filter_map g (range_with_len (from + 1) n) ≡ filter_map f (range_with_len (from + 1) n) =
            filter_map-same f g (from + 1) n (λ k above within. same k (λ e. omega (arith, e, above, here))) in
            rw (ap f here ∙ is, ap g here ∙ none, rest) (omega arith)
        | inr other ↦
            rw (same from other)
            (by_head (f from) _ _
            (length-given_less f g (from + 1) n at x (omega (arith, low, other)) (omega (arith, high)) is none same))
      ]
    where
      by_head : (o : Option X) (less more : List X) → length less + 1 ≡ length more
          → length (cons_option o less) + 1 ≡ length (cons_option o more)
      by_head None less more e = e
      by_head (Some y) less more e = omega (arith, e)
