-- The children of a place stand behind it, have it as their parent, and are told apart by their places.
use Rattle.std.proofs.Common.{refl, sym, subst, ap, ◌∙◌, ◌≡◌, ◌≢◌, ℕ, zero, suc, ◌+◌, ◌<◌, ◌≤◌, Bool, true, false, cond, All, AllPairs, List, [], ◌∷◌, Option, None, Some, filter, length, unwrap_or, is_some, arith}
use Rattle.std.proofs.lemmas.Bool.{eqb-true, true≢false}
use Rattle.std.proofs.lemmas.List.Elements.{All-cons, All-nil}
use Rattle.std.proofs.lemmas.List.FromFn.{get_or-range_with_len, length-range_with_len, get_or-map-range_with_len}
use Rattle.std.proofs.lemmas.List.Kept.{AllPairs-filter}
use Rattle.std.specs.List.{range_with_len}
use Rattle.fx_layout_sweeps.specs.Nodes.{IsTree, Parents, children_lists, children_of, is_place, parent_at, places_at}

pub record IsChild (ups : Parents) (p j : ℕ) : Type 0 where
  pub behind : p < j
  pub within : j < length ups
  pub up : parent_at ups j ≡ Some p

keep : (P : ℕ → Type 0) (test : ℕ → Bool) (x : ℕ) (xs : List ℕ) → (test x ≡ true → P x) → All P (filter test xs)
    → All P (filter test (x ∷ xs))
keep P test x xs passes rest = keep_if (test x) refl
  where
    keep_if : (b : Bool) → test x ≡ b → All P (cond b (x ∷ filter test xs) (filter test xs))
    keep_if true e = All-cons P x (filter test xs) (passes e) rest
    keep_if false e = rest

none_is : (p : ℕ) (o : Option ℕ) → is_place p o ≡ true → o ≡ Some p
none_is p None e = absurd (true≢false (sym e))
none_is p (Some q) e = ap (λ n. Some n) (sym (eqb-true p q e))

pub same_parent : (p q : ℕ) (o : Option ℕ) → o ≡ Some p → o ≡ Some q → p ≡ q
same_parent p q o e f = ap (λ (r : Option ℕ). unwrap_or r 0) (sym e ∙ f)

not_none : (p : ℕ) (o : Option ℕ) → o ≡ Some p → o ≡ None → ⊥
not_none p o e f = let h : true ≡ false = ap (λ (r : Option ℕ). is_some r) (sym e ∙ f) in absurd (true≢false h)

is_child : (ups : Parents) → IsTree ups → (p j : ℕ) → j < length ups → parent_at ups j ≡ Some p → IsChild ups p j
is_child ups tree p zero within up = absurd (not_none p (parent_at ups 0) up tree.root)
is_child ups tree p (suc j) within up =
    let below = tree.below (suc j) (omega arith) within in
    record {
      behind = subst (λ q. q < suc j) (same_parent below.0 p (parent_at ups (suc j)) below.1 up) below.2;
      within = within;
      up = up;
    }

children_from : (ups : Parents) → IsTree ups → (p a n : ℕ) → a + n ≤ length ups
    → All (IsChild ups p) (filter (λ j. is_place p (parent_at ups j)) (range_with_len a n))
children_from ups tree p a zero few = All-nil (IsChild ups p)
children_from ups tree p a (suc n) few =
    keep (IsChild ups p) (λ j. is_place p (parent_at ups j)) a (range_with_len (a + 1) n)
    (λ e. is_child ups tree p a (omega (arith, few)) (none_is p (parent_at ups a) e))
    (children_from ups tree p (a + 1) n (omega (arith, few)))

pub children_known : (ups : Parents) → IsTree ups → (p : ℕ) → All (IsChild ups p) (children_of ups p)
children_known ups tree p = children_from ups tree p 0 (length ups) (omega arith)

range_distinct : (a n : ℕ) → AllPairs (λ x y. x ≢ y) (range_with_len a n)
range_distinct a n i j d less within same =
    let few : j < n = subst (λ m. j < m) (length-range_with_len a n) within in
    let one = get_or-range_with_len a n i d (omega (arith, less, few)) in
    let other = get_or-range_with_len a n j d few in
    absurd (omega (arith, less, sym one ∙ (same ∙ other)))

pub children_distinct : (ups : Parents) (p : ℕ) → AllPairs (λ x y. x ≢ y) (children_of ups p)
children_distinct ups p =
    AllPairs-filter (λ x y. x ≢ y) (λ j. is_place p (parent_at ups j)) (range_with_len 0 (length ups)) (range_distinct 0 (length ups))

pub lists_at : (ups : Parents) (p : ℕ) → p < length ups → places_at (children_lists ups) p ≡ children_of ups p
lists_at ups p within = get_or-map-range_with_len (children_of ups) 0 (length ups) p p [] within (omega arith)
