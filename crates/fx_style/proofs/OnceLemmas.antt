-- The rules that match a node name each rule once: their list goes through sheets and rules in order.
use Rattle.std.proofs.Common.{◌≡◌, ◌++◌, ◌∷◌, [], ◌≤◌, ◌+◌, ◌⊎◌, ℕ, zero, suc, List, Option, Some, None, length, refl, sym, ◌∙◌, ap, inl, inr, arith}
use Rattle.std.specs.Prelude.{slice_get, option_to_list}
use Rattle.std.specs.List.{enumerate_from, flat_map}
use Rattle.std.specs.Option.{option_map}
use Rattle.fx_css_types.specs.declared.sheets.Candidate.{Candidate}
use Rattle.fx_css_types.specs.declared.sheets.Rule.{Rule}
use Rattle.fx_css_types.specs.declared.sheets.SheetAt.{SheetAt}
use Rattle.fx_css_types.specs.declared.sheets.SheetOrigin.{SheetOrigin}
use Rattle.fx_kinds.specs.declared.facts.StyleFacts.{StyleFacts}
use Rattle.fx_select.specs.AllMatching.{matching_in, matching_rule, rule_weights}
use Rattle.fx_select.specs.Hits.{candidate}
use Rattle.fx_select.specs.Listing.{each}
use Rattle.fx_select.specs.Strongest.{greatest}
use Rattle.fx_cascade.specs.Sources.{NameEachRuleOnce}
use Rattle.fx_style.specs.Rules.{matching_nodes}

-- no two elements at different places are related
abbrev Once : {A : Type 0} → (A → A → Type 0) → List A → Type 0
Once {A} R xs = (i j : ℕ) (a b : A) → slice_get xs i ≡ Some a → slice_get xs j ≡ Some b → R a b → i ≡ j

none_there : {A : Type 0} (k : ℕ) (a : A) → slice_get [] k ≡ Some a → ⊥
none_there zero a e = cc
none_there (suc k) a e = cc

-- an element of two lists behind one another stands in one of them
split_at : {A : Type 0} (xs ys : List A) (i : ℕ) (a : A) → slice_get (xs ++ ys) i ≡ Some a
    → (slice_get xs i ≡ Some a) ⊎ ((k : ℕ) × (slice_get ys k ≡ Some a) × (i ≡ length xs + k))
split_at [] ys i a e = inr (i, e, omega arith)
split_at (x ∷ xs) ys zero a e = inl e
split_at (x ∷ xs) ys (suc i) a e = elim (split_at xs ys i a e) [
  | inl here ↦ inl here
  | inr there ↦ inr (there.0, there.1, let h : i ≡ length xs + there.0 = there.2 in omega (arith, h))
]

-- what each element gives with its number, joined
abbrev from : {X A : Type 0} → (ℕ → X → List A) → ℕ → List X → List A
from {X} give n xs = flat_map (λ (e : ℕ × X). give e.0 e.1) (enumerate_from n xs)

each_is : {X A : Type 0} (give : ℕ → X → List A) (xs : List X) → each give xs ≡ from give 0 xs
unfolding each
each_is give xs = refl

all_from : {X A : Type 0} (P : A → Type 0) (give : ℕ → X → List A)
    → ((i : ℕ) (x : X) (k : ℕ) (a : A) → slice_get (give i x) k ≡ Some a → P a)
    → (n : ℕ) (xs : List X) (k : ℕ) (a : A) → slice_get (from give n xs) k ≡ Some a → P a
all_from P give holds n [] k a e = absurd (none_there k a e)
all_from P give holds n (x ∷ xs) k a e = elim (split_at (give n x) (from give (n + 1) xs) k a e) [
  | inl here ↦ holds n x k a here
  | inr there ↦ all_from P give holds (n + 1) xs there.0 a there.1
]

-- elements of later numbers have greater tags
late : {X A : Type 0} (tag : A → ℕ) (give : ℕ → X → List A)
    → ((i : ℕ) (x : X) (k : ℕ) (a : A) → slice_get (give i x) k ≡ Some a → tag a ≡ i)
    → (n : ℕ) (xs : List X) (k : ℕ) (a : A) → slice_get (from give n xs) k ≡ Some a → n ≤ tag a
late tag give tagged n [] k a e = absurd (none_there k a e)
late tag give tagged n (x ∷ xs) k a e = elim (split_at (give n x) (from give (n + 1) xs) k a e) [
  | inl here ↦ let h : tag a ≡ n = tagged n x k a here in omega (arith, h)
  | inr there ↦ let h : n + 1 ≤ tag a = late tag give tagged (n + 1) xs there.0 a there.1 in omega (arith, h)
]

once_from : {X A : Type 0} (R : A → A → Type 0) (tag : A → ℕ) (give : ℕ → X → List A)
    → ((a b : A) → R a b → tag a ≡ tag b)
    → ((i : ℕ) (x : X) (k : ℕ) (a : A) → slice_get (give i x) k ≡ Some a → tag a ≡ i)
    → ((i : ℕ) (x : X) → Once R (give i x)) → (n : ℕ) (xs : List X) → Once R (from give n xs)
once_from R tag give same tagged once n [] i j a b e f r = absurd (none_there i a e)
once_from R tag give same tagged once n (x ∷ xs) i j a b e f r =
    let more = from give (n + 1) xs in
    let tags : tag a ≡ tag b = same a b r in
    elim (split_at (give n x) more i a e) [
      | inl here ↦ elim (split_at (give n x) more j b f) [
        | inl other ↦ once n x i j a b here other r
        | inr there ↦ absurd (
            let h : tag a ≡ n = tagged n x i a here in
            let g : n + 1 ≤ tag b = late tag give tagged (n + 1) xs there.0 b there.1 in
            omega (arith, h, g, tags))
      ]
      | inr there ↦ elim (split_at (give n x) more j b f) [
        | inl other ↦ absurd (
            let h : tag b ≡ n = tagged n x j b other in
            let g : n + 1 ≤ tag a = late tag give tagged (n + 1) xs there.0 a there.1 in
            omega (arith, h, g, tags))
        | inr other ↦
            let h : there.0 ≡ other.0 =
            once_from R tag give same tagged once (n + 1) xs there.0 other.0 a b there.1 other.1 r in
            let k : i ≡ length (give n x) + there.0 = there.2 in
            let l : j ≡ length (give n x) + other.0 = other.2 in
            omega (arith, h, k, l)
      ]
    ]

-- an element that there may be

from_option : {A : Type 0} (o : Option A) (k : ℕ) (a : A) → slice_get (option_to_list o) k ≡ Some a → o ≡ Some a
from_option None k a e = absurd (none_there k a e)
from_option (Some x) zero a e = e
from_option (Some x) (suc k) a e = absurd (none_there k a e)

once_option : {A : Type 0} (R : A → A → Type 0) (o : Option A) → Once R (option_to_list o)
once_option R None i j a b e f r = absurd (none_there i a e)
once_option R (Some x) zero zero a b e f r = refl
once_option R (Some x) zero (suc j) a b e f r = absurd (none_there j b f)
once_option R (Some x) (suc i) j a b e f r = absurd (none_there i a e)

-- two candidates of one rule
abbrev IsSameRule : Candidate → Candidate → Type 0
IsSameRule c d = (c.sheet ≡ d.sheet) × (c.rule ≡ d.rule)

abbrev IsOf : ℕ → ℕ → Candidate → Type 0
IsOf sheet rule c = (c.sheet ≡ sheet) × (c.rule ≡ rule)

of_weight : (sheet rule : ℕ) (origin : SheetOrigin) (weight : Option (ℕ × ℕ × ℕ)) (a : Candidate)
    → option_map (candidate sheet rule origin) weight ≡ Some a → IsOf sheet rule a
of_weight sheet rule origin None a e = absurd (cc)
of_weight sheet rule origin (Some w) a e =
    let h : candidate sheet rule origin w ≡ a = cc in
    (sym (ap (λ (c : Candidate). c.sheet) h), sym (ap (λ (c : Candidate). c.rule) h))

of_rule : (nodes : List StyleFacts) (sheet : ℕ) (s : SheetAt) (rule : ℕ) (r : Rule) (k : ℕ) (a : Candidate)
    → slice_get (matching_rule nodes sheet s rule r) k ≡ Some a → IsOf sheet rule a
of_rule nodes sheet s rule r k a e =
    let weight = greatest (rule_weights nodes sheet r.selectors) in
    of_weight sheet rule s.origin weight a (from_option (option_map (candidate sheet rule s.origin) weight) k a e)

once_in : (nodes : List StyleFacts) (sheet : ℕ) (s : SheetAt) → Once IsSameRule (matching_in nodes sheet s)
once_in nodes sheet s i j a b e f r =
    let give = matching_rule nodes sheet s in
    once_from IsSameRule (λ c. c.rule) give (λ c d same. same.1)
    (λ rule one k c is. (of_rule nodes sheet s rule one k c is).1)
    (λ rule one. once_option IsSameRule
    (option_map (candidate sheet rule s.origin) (greatest (rule_weights nodes sheet one.selectors))))
    0 s.sheet.rules i j a b
    (sym (ap (λ l. slice_get l i) (each_is give s.sheet.rules)) ∙ e)
    (sym (ap (λ l. slice_get l j) (each_is give s.sheet.rules)) ∙ f) r

of_sheet : (nodes : List StyleFacts) (sheet : ℕ) (s : SheetAt) (k : ℕ) (a : Candidate)
    → slice_get (matching_in nodes sheet s) k ≡ Some a → a.sheet ≡ sheet
of_sheet nodes sheet s k a e =
    let give = matching_rule nodes sheet s in
    all_from (λ c. c.sheet ≡ sheet) give (λ rule one j c is. (of_rule nodes sheet s rule one j c is).0)
    0 s.sheet.rules k a (sym (ap (λ l. slice_get l k) (each_is give s.sheet.rules)) ∙ e)

pub once_named : (sheets : List SheetAt) (nodes : List StyleFacts) → NameEachRuleOnce (matching_nodes sheets nodes)
once_named sheets nodes i j a b e f sheet rule =
    let give = matching_in nodes in
    once_from IsSameRule (λ c. c.sheet) give (λ c d same. same.0) (of_sheet nodes) (once_in nodes)
    0 sheets i j a b
    (sym (ap (λ l. slice_get l i) (each_is give sheets)) ∙ e)
    (sym (ap (λ l. slice_get l j) (each_is give sheets)) ∙ f) (sheet, rule)
