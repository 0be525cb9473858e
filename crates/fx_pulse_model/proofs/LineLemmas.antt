-- Lines go down from the root, each behind that of the parent.
use Rattle.std.proofs.Common.{refl, sym, ap, subst, ◌∙◌, ◌≡◌, ℕ, zero, suc, ◌+◌, ◌-◌, ◌<◌, ◌++◌, Bool, true, false, ◌&&◌, ◌||◌, [], ◌∷◌, length, take, Option, None, Some, arith}
use Rattle.std.specs.Prelude.{count_by}
use Rattle.std.specs.List.{flat_map, list_all, list_any}
use Rattle.std.specs.Cmp.Lexicographic.{slice_cmp}
use Rattle.std.specs.Ordering.{nat_cmp}
use Rattle.std.specs.declared.cmp.Ordering.TheVariants.{Less}
use Rattle.std.proofs.lemmas.Cmp.{nat_list_cmp_total}
use Rattle.std.proofs.lemmas.Grind.{flat_map-append}
use Rattle.std.proofs.lemmas.List.Folds.{list_all-append, list_any-append}
use Rattle.fx_layout_sweeps.specs.Nodes.{IsTree, Parents, is_place, parent_at}
use Rattle.fx_pulse_model.specs.Lines.{AreInOrder, line_in, line_to, path_of, step_below, step_to}

-- where a parent is named, it stands before
pub before : (ups : Parents) (k p : ℕ) → IsTree ups → k < length ups → parent_at ups k ≡ Some p → p < k
before ups zero p tree within is = absurd (some_none (sym is ∙ tree.root))
  where
    some_none : Some p ≡ None → ⊥
    some_none e = grind arith
before ups (suc j) p tree within is = below (tree.below (suc j) (omega arith) within)
  where
    below : (q : ℕ) × (parent_at ups (suc j) ≡ Some q) × (q < suc j) → p < suc j
    below (q, there, less) = same (sym is ∙ there)
      where
        same : Some p ≡ Some q → p < suc j
        same e = grind arith

no_line : (ups : Parents) (m : ℕ) → line_in m ups None ≡ []
unfolding line_in
no_line ups zero = refl
no_line ups (suc m) = refl

line_more : (ups : Parents) (m n k : ℕ) → IsTree ups → k < length ups → k < m → k < n
    → line_in m ups (Some k) ≡ line_in n ups (Some k)
unfolding line_in
line_more ups zero n k tree within a b = absurd (omega (arith, a))
line_more ups (suc m) zero k tree within a b = absurd (omega (arith, b))
line_more ups (suc m) (suc n) k tree within a b =
    ap (λ l. l ++ k ∷ []) (up (parent_at ups k) refl
    (λ p less. line_more ups m n p tree (omega (arith, less, within)) (omega (arith, less, a))
    (omega (arith, less, b))))
  where
    up : (o : Option ℕ) → parent_at ups k ≡ o
        → ((p : ℕ) → p < k → line_in m ups (Some p) ≡ line_in n ups (Some p)) → line_in m ups o ≡ line_in n ups o
    up None is below = no_line ups m ∙ sym (no_line ups n)
    up (Some p) is below = below p (before ups k p tree within is)

pub line_root : (ups : Parents) (k : ℕ) → parent_at ups k ≡ None → line_to ups k ≡ k ∷ []
unfolding line_in line_to
line_root ups k is = ap (λ o. line_in k ups o ++ k ∷ []) is ∙ ap (λ l. l ++ k ∷ []) (no_line ups k)

pub line_child : (ups : Parents) (k p : ℕ) → IsTree ups → k < length ups → parent_at ups k ≡ Some p
    → line_to ups k ≡ line_to ups p ++ k ∷ []
unfolding line_in line_to
line_child ups k p tree within is =
    let less = before ups k p tree within is in
    ap (λ o. line_in k ups o ++ k ∷ []) is
    ∙ ap (λ l. l ++ k ∷ []) (line_more ups k (suc p) p tree (omega (arith, less, within)) less (omega arith))

-- ---- what is told along a line
pub path_root : (ups : Parents) (k : ℕ) → parent_at ups k ≡ None → path_of ups k ≡ []
unfolding step_to
path_root ups k is = ap (λ l. flat_map (step_to ups) l) (line_root ups k is) ∙ ap (λ o. step_below ups k o ++ []) is

pub path_child : (ups : Parents) (k p : ℕ) → IsTree ups → k < length ups → parent_at ups k ≡ Some p
    → path_of ups k ≡ path_of ups p ++ count_by (is_place p) (take k ups) ∷ []
unfolding step_to
path_child ups k p tree within is =
    ap (λ l. flat_map (step_to ups) l) (line_child ups k p tree within is)
    ∙ (flat_map-append (step_to ups) (line_to ups p) (k ∷ [])
    ∙ ap (λ o. path_of ups p ++ (step_below ups k o ++ [])) is)

and_end : (a b : Bool) → (a && (b && true)) ≡ (a && b)
and_end true true = refl
and_end true false = refl
and_end false b = refl

or_end : (a b : Bool) → (a || (b || false)) ≡ (a || b)
or_end true b = refl
or_end false true = refl
or_end false false = refl

pub all_root : (ups : Parents) (test : ℕ → Bool) (k : ℕ) → parent_at ups k ≡ None
    → list_all test (line_to ups k) ≡ test k
all_root ups test k is = ap (list_all test) (line_root ups k is) ∙ and_end true (test k)

pub all_child : (ups : Parents) (test : ℕ → Bool) (k p : ℕ) → IsTree ups → k < length ups → parent_at ups k ≡ Some p
    → list_all test (line_to ups k) ≡ (list_all test (line_to ups p) && test k)
all_child ups test k p tree within is =
    ap (list_all test) (line_child ups k p tree within is)
    ∙ (list_all-append test (line_to ups p) (k ∷ []) ∙ and_end (list_all test (line_to ups p)) (test k))

pub any_root : (ups : Parents) (test : ℕ → Bool) (k : ℕ) → parent_at ups k ≡ None
    → list_any test (line_to ups k) ≡ test k
any_root ups test k is = ap (list_any test) (line_root ups k is) ∙ or_end false (test k)

pub any_child : (ups : Parents) (test : ℕ → Bool) (k p : ℕ) → IsTree ups → k < length ups → parent_at ups k ≡ Some p
    → list_any test (line_to ups k) ≡ (list_any test (line_to ups p) || test k)
any_child ups test k p tree within is =
    ap (list_any test) (line_child ups k p tree within is)
    ∙ (list_any-append test (line_to ups p) (k ∷ []) ∙ or_end (list_any test (line_to ups p)) (test k))

-- ---- the order of paths
path_less : (ups : Parents) (n more k : ℕ)
    → ((i : ℕ) → suc i < n → slice_cmp nat_cmp (path_of ups i) (path_of ups (suc i)) ≡ Less) → suc (k + more) < n
    → slice_cmp nat_cmp (path_of ups k) (path_of ups (suc (k + more))) ≡ Less
path_less ups n zero k order within =
    let here : k + 0 ≡ k = omega arith in
    rw here (order k (omega (arith, within)))
path_less ups n (suc more) k order within =
    let next : suc (k + more) + 1 ≡ suc (k + suc more) = omega arith in
    let last : slice_cmp nat_cmp (path_of ups (k + suc more)) (path_of ups (suc (k + suc more))) ≡ Less =
    order (k + suc more) within in
    let move : suc (k + more) ≡ k + suc more = omega arith in
    nat_list_cmp_total.trans (path_of ups k) (path_of ups (k + suc more)) (path_of ups (suc (k + suc more)))
    (subst (λ j. slice_cmp nat_cmp (path_of ups k) (path_of ups j) ≡ Less) move
    (path_less ups n more k order (omega (arith, within)))) last

-- where the first nodes rise, one after another, each is less than those behind it
pub path_before_in : (ups : Parents) (n k j : ℕ)
    → ((i : ℕ) → suc i < n → slice_cmp nat_cmp (path_of ups i) (path_of ups (suc i)) ≡ Less) → k < j → j < n
    → slice_cmp nat_cmp (path_of ups k) (path_of ups j) ≡ Less
path_before_in ups n k j order less within =
    let there : suc (k + (j - suc k)) ≡ j = omega (arith, less) in
    subst (λ i. slice_cmp nat_cmp (path_of ups k) (path_of ups i) ≡ Less) there
    (path_less ups n (j - suc k) k order (omega (arith, less, within)))

pub path_before : (ups : Parents) (k j : ℕ) → AreInOrder ups → k < j → j < length ups
    → slice_cmp nat_cmp (path_of ups k) (path_of ups j) ≡ Less
path_before ups k j order less within = path_before_in ups (length ups) k j order less within
