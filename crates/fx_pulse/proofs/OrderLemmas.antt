-- Where the nodes so far are in order, the next one is behind the last by its path exactly where it hangs on the line
-- down to the last.
use Rattle.std.proofs.Common.{refl, sym, ap, subst, ◌∙◌, ◌≡◌, ℕ, zero, suc, ◌+◌, ◌-◌, ◌<◌, ◌≤◌, ◌++◌, ◌==◌, ◌⊎◌, ◌||◌, Bool, true, false, List, [], ◌∷◌, length, take, Option, None, Some, inl, inr, arith}
use Rattle.std.specs.Prelude.{IsTrue, ◌↔◌, count_by}
use Rattle.std.specs.Cmp.Lexicographic.{slice_cmp}
use Rattle.std.specs.Ordering.{nat_cmp, ordering_reverse, ordering_then}
use Rattle.std.specs.declared.cmp.Ordering.{Ordering}
use Rattle.std.specs.declared.cmp.Ordering.TheVariants.{Equal, Greater, Less}
use Rattle.std.proofs.lemmas.Bool.{cases_order, eq-eqb, eqb-true, or_cases, or_left}
use Rattle.std.proofs.lemmas.Bool.Decides.{nat_tests}
use Rattle.std.proofs.lemmas.Cmp.{by_ranked, nat_cmp_total, nat_list_cmp_total, ranked, tied_itself}
use Rattle.std.proofs.lemmas.List.{append-nil, append_assoc}
use Rattle.std.proofs.lemmas.List.Sums.{count_by_more_no, count_by_more_yes}
use Rattle.fx_kinds.specs.declared.facts.BoxFacts.{BoxFacts}
use Rattle.fx_layout_sweeps.specs.Nodes.{IsTree, Parents, is_place, node_at, parent_at, parents}
use Rattle.fx_pulse_model.specs.Lines.{path_of}
use Rattle.fx_pulse_model.proofs.LineLemmas.{any_child, any_root, before, path_before_in, path_child, path_root}
use Rattle.fx_pulse.specs.Drawing.{RiseUpTo}
use Rattle.fx_pulse_touched.specs.Marks.{is_on_line}
use Rattle.fx_pulse_touched.proofs.ToldLemmas.{long, read}
use Rattle.fx_pulse_touched.proofs.UpLemmas.{own_line}

abbrev cmp : List ℕ → List ℕ → Ordering
cmp xs ys = slice_cmp nat_cmp xs ys

-- ---- lists of numbers
same_head : (xs ys zs : List ℕ) → cmp (xs ++ ys) (xs ++ zs) ≡ cmp ys zs
same_head [] ys zs = refl
same_head (x ∷ xs) ys zs =
    ap (λ o. ordering_then o (cmp (xs ++ ys) (xs ++ zs))) (tied_itself nat_cmp_total x) ∙ same_head xs ys zs

less_number : (a b : ℕ) → a < b → nat_cmp a b ≡ Less
less_number a b less =
    by_ranked (a < b) (a ≡ b) (b < a) (nat_cmp a b) (ranked a b (nat_cmp a b) refl) (λ o l. o)
    (λ o e. absurd (omega (arith, e, less))) (λ o g. absurd (omega (arith, g, less)))

equal_number : (a b : ℕ) → nat_cmp a b ≡ Equal → a ≡ b
equal_number a b same =
    by_ranked (a < b) (a ≡ b) (b < a) (nat_cmp a b) (ranked a b (nat_cmp a b) refl)
    (λ o l. absurd (two same o)) (λ o e. e) (λ o g. absurd (three same o))
  where
    two : {o : Ordering} → o ≡ Equal → o ≡ Less → ⊥
    two p q = cc

    three : {o : Ordering} → o ≡ Equal → o ≡ Greater → ⊥
    three p q = cc

greater_less : Greater ≡ Less → ⊥
greater_less e = cc

equal_less : Equal ≡ Less → ⊥
equal_less e = cc

one_step : (o p q r : Ordering) → p ≡ ordering_reverse o → ordering_then o q ≡ Less → ordering_then p r ≡ Less
    → (o ≡ Equal) × (q ≡ Less) × (r ≡ Less)
one_step Less p q r e a b = absurd (greater_less (subst (λ s. ordering_then s r ≡ Less) e b))
one_step Equal p q r e a b = (refl, a, subst (λ s. ordering_then s r ≡ Less) e b)
one_step Greater p q r e a b = absurd (greater_less a)

-- what is behind a list, but before the list with one number more, begins with it
between : (xs ys : List ℕ) (n : ℕ) → cmp xs ys ≡ Less → cmp ys (xs ++ n ∷ []) ≡ Less
    → (rest : List ℕ) × (ys ≡ xs ++ rest)
between [] ys n a b = (ys, refl)
between (x ∷ xs) [] n a b = absurd (greater_less a)
between (x ∷ xs) (y ∷ ys) n a b =
    let step = one_step (nat_cmp x y) (nat_cmp y x) (cmp xs ys) (cmp ys (xs ++ n ∷ [])) (nat_cmp_total.antisymm y x) a b in
    let tail = between xs ys n step.1 step.2 in
    (tail.0, ap (λ m. m ∷ ys) (sym (equal_number x y step.0)) ∙ ap (λ l. x ∷ l) tail.1)

nothing : (xs ys : List ℕ) → [] ≡ xs ++ ys → ys ≡ []
nothing [] ys e = sym e
nothing (x ∷ xs) ys e = cc

shorter : (xs ys zs : List ℕ) (c : ℕ) → zs ++ c ∷ [] ≡ xs ++ ys → (ys ≡ []) ⊎ ((rest : List ℕ) × (zs ≡ xs ++ rest))
shorter [] ys zs c e = inr (zs, refl)
shorter (x ∷ xs) ys [] c e = inl (nothing xs ys (tail e))
  where
    tail : c ∷ [] ≡ x ∷ (xs ++ ys) → [] ≡ xs ++ ys
    tail h = cc
shorter (x ∷ xs) ys (z ∷ zs) c e = elim (shorter xs ys zs c (tail e)) [
  | inl none ↦ inl none
  | inr more ↦ inr (more.0, ap (λ m. m ∷ zs) (head e) ∙ ap (λ l. x ∷ l) more.1)
]
  where
    head : z ∷ (zs ++ c ∷ []) ≡ x ∷ (xs ++ ys) → z ≡ x
    head h = cc

    tail : z ∷ (zs ++ c ∷ []) ≡ x ∷ (xs ++ ys) → zs ++ c ∷ [] ≡ xs ++ ys
    tail h = cc

-- ---- children so far
count_more : (ups : Parents) (p k : ℕ) → k < length ups
    → count_by (is_place p) (take k ups) ≤ count_by (is_place p) (take (k + 1) ups)
count_more ups p k within = by (is_place p (parent_at ups k)) refl
  where
    by : (b : Bool) → is_place p (parent_at ups k) ≡ b
        → count_by (is_place p) (take k ups) ≤ count_by (is_place p) (take (k + 1) ups)
    by true e = omega (arith, count_by_more_yes (is_place p) ups k None within e)
    by false e = omega (arith, count_by_more_no (is_place p) ups k None within e)

count_later : (ups : Parents) (p k more : ℕ) → k + more ≤ length ups
    → count_by (is_place p) (take k ups) ≤ count_by (is_place p) (take (k + more) ups)
count_later ups p k zero within =
    let here : k + 0 ≡ k = omega arith in
    rw here (omega arith)
count_later ups p k (suc more) within =
    let here : k + suc more ≡ (k + more) + 1 = omega arith in
    let last = count_more ups p (k + more) (omega (arith, within)) in
    let rest = count_later ups p k more (omega (arith, within)) in
    subst (λ n. count_by (is_place p) (take k ups) ≤ count_by (is_place p) (take n ups)) (sym here)
    (omega (arith, last, rest))

-- a child is counted before those that stand behind it
child_before : (ups : Parents) (k p n : ℕ) → parent_at ups k ≡ Some p → k < n → n ≤ length ups
    → count_by (is_place p) (take k ups) < count_by (is_place p) (take n ups)
child_before ups k p n is less within =
    let there : (k + 1) + (n - (k + 1)) ≡ n = omega (arith, less) in
    let one = count_by_more_yes (is_place p) ups k None (omega (arith, less, within))
    (ap (is_place p) is ∙ eq-eqb p p refl) in
    let rest = subst (λ m. count_by (is_place p) (take (k + 1) ups) ≤ count_by (is_place p) (take m ups)) there
    (count_later ups p (k + 1) (n - (k + 1)) (omega (arith, there, within))) in
    omega (arith, one, rest)

-- ---- lines and paths
-- the path of a node below another one goes on with a child that stands before a place
abbrev GoesOn : Parents → ℕ → ℕ → ℕ → Type 0
GoesOn ups k p n =
    (c : ℕ) × (cs : List ℕ) × (c < count_by (is_place p) (take n ups)) × (path_of ups k ≡ path_of ups p ++ c ∷ cs)

on_line_path : (ups : Parents) (fuel k p n : ℕ) → IsTree ups → k < fuel → k < n → n ≤ length ups
    → is_on_line ups k p ≡ true → (k ≡ p) ⊎ GoesOn ups k p n
on_line_path ups zero k p n tree few less within on = absurd (omega (arith, few))
on_line_path ups (suc fuel) k p n tree few less within on =
    by (parent_at ups k) refl
    (λ q up above. on_line_path ups fuel q p n tree (omega (arith, up, few)) (omega (arith, up, less)) within above)
  where
    there : k < length ups
    there = omega (arith, less, within)

    further : (q : ℕ) → parent_at ups k ≡ Some q → (q ≡ p) ⊎ GoesOn ups q p n → (k ≡ p) ⊎ GoesOn ups k p n
    further q is (inl same) = inr (
      count_by (is_place q) (take k ups),
      [],
      subst (λ (m : ℕ). count_by (is_place q) (take k ups) < count_by (is_place m) (take n ups)) same
          (child_before ups k q n is less within),
      path_child ups k q tree there is
          ∙ ap (λ (m : ℕ). path_of ups m ++ count_by (is_place q) (take k ups) ∷ []) same,
    )
    further q is (inr (c, cs, few_more, goes)) = inr (
      c,
      cs ++ count_by (is_place q) (take k ups) ∷ [],
      few_more,
      path_child ups k q tree there is
          ∙ (ap (λ (l : List ℕ). l ++ count_by (is_place q) (take k ups) ∷ []) goes
          ∙ append_assoc (path_of ups p) (c ∷ cs) (count_by (is_place q) (take k ups) ∷ [])),
    )

    by : (o : Option ℕ) → parent_at ups k ≡ o
        → ((q : ℕ) → q < k → is_on_line ups q p ≡ true → (q ≡ p) ⊎ GoesOn ups q p n) → (k ≡ p) ⊎ GoesOn ups k p n
    by None is rest = inl (eqb-true k p (sym (any_root ups (λ i. i == p) k is) ∙ on))
    by (Some q) is rest =
        elim (or_cases (is_on_line ups q p) (k == p) (sym (any_child ups (λ i. i == p) k q tree there is) ∙ on)) [
          | inr here ↦ inl (eqb-true k p here)
          | inl above ↦ further q is (rest q (before ups k q tree there is) above)
        ]

-- it is less than a path that goes on with this number
goes_on_less : (ups : Parents) (k p n : ℕ) → (k ≡ p) ⊎ GoesOn ups k p n
    → cmp (path_of ups k) (path_of ups p ++ count_by (is_place p) (take n ups) ∷ []) ≡ Less
goes_on_less ups k p n (inl same) =
    let m = count_by (is_place p) (take n ups) in
    ap (λ (i : ℕ). cmp (path_of ups i) (path_of ups p ++ m ∷ [])) same
    ∙ (ap (λ (l : List ℕ). cmp l (path_of ups p ++ m ∷ [])) (sym (append-nil (path_of ups p)))
    ∙ same_head (path_of ups p) [] (m ∷ []))
goes_on_less ups k p n (inr (c, cs, less, goes)) =
    let m = count_by (is_place p) (take n ups) in
    ap (λ (l : List ℕ). cmp l (path_of ups p ++ m ∷ [])) goes
    ∙ (same_head (path_of ups p) (c ∷ cs) (m ∷ []) ∙ ap (λ o. ordering_then o (cmp cs [])) (less_number c m less))

pub rises_on_line : (ups : Parents) (k p : ℕ) → IsTree ups → suc k < length ups → parent_at ups (suc k) ≡ Some p
    → is_on_line ups k p ≡ true → slice_cmp nat_cmp (path_of ups k) (path_of ups (suc k)) ≡ Less
rises_on_line ups k p tree within is on =
    ap (cmp (path_of ups k)) (path_child ups (suc k) p tree within is)
    ∙ goes_on_less ups k p (suc k)
    (on_line_path ups (suc k) k p (suc k) tree (omega arith) (omega arith) (omega (arith, within)) on)

-- what a path begins with is the path of a node on the line
beginning : (ups : Parents) (fuel k : ℕ) (xs ys : List ℕ) → IsTree ups → k < fuel → k < length ups
    → path_of ups k ≡ xs ++ ys → (j : ℕ) × (is_on_line ups k j ≡ true) × (j ≤ k) × (path_of ups j ≡ xs)
beginning ups zero k xs ys tree few within is = absurd (omega (arith, few))
beginning ups (suc fuel) k xs ys tree few within is =
    by (parent_at ups k) refl
    (λ q rest less goes. beginning ups fuel q xs rest tree (omega (arith, less, few)) (omega (arith, less, within)) goes)
  where
    whole : ys ≡ [] → (j : ℕ) × (is_on_line ups k j ≡ true) × (j ≤ k) × (path_of ups j ≡ xs)
    whole none = (k, own_line ups k tree within, omega arith, is ∙ (ap (λ (l : List ℕ). xs ++ l) none ∙ append-nil xs))

    higher : (q : ℕ) → parent_at ups k ≡ Some q
        → (j : ℕ) × (is_on_line ups q j ≡ true) × (j ≤ q) × (path_of ups j ≡ xs)
        → (j : ℕ) × (is_on_line ups k j ≡ true) × (j ≤ k) × (path_of ups j ≡ xs)
    higher q up (j, on, low, same) =
        let less : q < k = before ups k q tree within up in (
          j,
          any_child ups (λ i. i == j) k q tree within up ∙ or_left (is_on_line ups q j) (k == j) on,
          omega (arith, low, less),
          same,
        )

    by : (o : Option ℕ) → parent_at ups k ≡ o
        → ((q : ℕ) (rest : List ℕ) → q < k → path_of ups q ≡ xs ++ rest
        → (j : ℕ) × (is_on_line ups q j ≡ true) × (j ≤ q) × (path_of ups j ≡ xs))
        → (j : ℕ) × (is_on_line ups k j ≡ true) × (j ≤ k) × (path_of ups j ≡ xs)
    by None up deeper = whole (nothing xs ys (sym (path_root ups k up) ∙ is))
    by (Some q) up deeper =
        elim (shorter xs ys (path_of ups q) (count_by (is_place q) (take k ups))
        (sym (path_child ups k q tree within up) ∙ is)) [
          | inl none ↦ whole none
          | inr more ↦ higher q up (deeper q more.0 (before ups k q tree within up) more.1)
        ]

-- ---- the next node
one_place : (ups : Parents) (n j p : ℕ) → RiseUpTo ups n → j < n → p < n → path_of ups j ≡ path_of ups p → j ≡ p
one_place ups n j p rise here there same = elim (cases_order j p) [
  | inl equal ↦ equal
  | inr (inl less) ↦ absurd (tied (path_of ups j) (path_of ups p) same (path_before_in ups n j p rise less there))
  | inr (inr more) ↦ absurd (tied (path_of ups p) (path_of ups j) (sym same) (path_before_in ups n p j rise more here))
]
  where
    tied : (xs ys : List ℕ) → xs ≡ ys → cmp xs ys ≡ Less → ⊥
    tied xs ys e less =
        equal_less (sym (tied_itself nat_list_cmp_total xs) ∙ (ap (cmp xs) e ∙ less))

pub on_line_if_less : (ups : Parents) (k p : ℕ) → IsTree ups → suc k < length ups → parent_at ups (suc k) ≡ Some p
    → RiseUpTo ups (suc k) → slice_cmp nat_cmp (path_of ups k) (path_of ups (suc k)) ≡ Less → is_on_line ups k p ≡ true
on_line_if_less ups k p tree within is rise less =
    let there : k < length ups = omega (arith, within) in
    elim (cases_order p k) [
      | inl same ↦ ap (is_on_line ups k) same ∙ own_line ups k tree there
      | inr (inl early) ↦ (
          let n = count_by (is_place p) (take (suc k) ups) in
          let behind = path_before_in ups (suc k) p k rise early (omega arith) in
          let ahead : cmp (path_of ups k) (path_of ups p ++ n ∷ []) ≡ Less =
          ap (cmp (path_of ups k)) (sym (path_child ups (suc k) p tree within is)) ∙ less in
          let begins = between (path_of ups p) (path_of ups k) n behind ahead in
          let found = beginning ups (suc k) k (path_of ups p) begins.0 tree (omega arith) there begins.1 in
          let one : found.0 ≡ p =
          one_place ups (suc k) found.0 p rise (omega (arith, found.2)) (omega (arith, early)) found.3 in
          ap (is_on_line ups k) (sym one) ∙ found.1)
      | inr (inr late) ↦ absurd (omega (arith, late, before ups (suc k) p tree within is))
    ]

-- ---- lines one step up
low_line : (ups : Parents) (fuel k p : ℕ) → IsTree ups → k < fuel → k < length ups → is_on_line ups k p ≡ true → p ≤ k
low_line ups zero k p tree few within on = absurd (omega (arith, few))
low_line ups (suc fuel) k p tree few within on =
    by (parent_at ups k) refl
    (λ q less above. low_line ups fuel q p tree (omega (arith, less, few)) (omega (arith, less, within)) above)
  where
    by : (o : Option ℕ) → parent_at ups k ≡ o → ((q : ℕ) → q < k → is_on_line ups q p ≡ true → p ≤ q) → p ≤ k
    by None is rest = omega (arith, eqb-true k p (sym (any_root ups (λ i. i == p) k is) ∙ on))
    by (Some q) is rest =
        elim (or_cases (is_on_line ups q p) (k == p) (sym (any_child ups (λ i. i == p) k q tree within is) ∙ on)) [
          | inr here ↦ omega (arith, eqb-true k p here)
          | inl above ↦ (
              let less : q < k = before ups k q tree within is in
              let low : p ≤ q = rest q less above in
              omega (arith, low, less))
        ]

other_number : (k p : ℕ) → p < k → (k == p) ≡ false
other_number k p less = grind (arith, nat_tests)

late_number : (k p : ℕ) → k < p → (k == p) ≡ false
late_number k p less = grind (arith, nat_tests)

or_nothing : (a b : Bool) → b ≡ false → (a || b) ≡ a
or_nothing true b e = refl
or_nothing false b e = e

pub line_root : (ups : Parents) (k p : ℕ) → parent_at ups k ≡ None → p < k → is_on_line ups k p ≡ false
line_root ups k p is less = any_root ups (λ i. i == p) k is ∙ other_number k p less

pub line_parent : (ups : Parents) (k q p : ℕ) → IsTree ups → k < length ups → parent_at ups k ≡ Some q → p < k
    → is_on_line ups q p ≡ is_on_line ups k p
line_parent ups k q p tree within is less =
    sym (any_child ups (λ i. i == p) k q tree within is
    ∙ or_nothing (is_on_line ups q p) (k == p) (other_number k p less))

pub line_end : (ups : Parents) (k p : ℕ) → IsTree ups → k < length ups → k ≤ p → (k == p) ≡ is_on_line ups k p
line_end ups k p tree within low = elim (cases_order k p) [
  | inl same ↦ eq-eqb k p same ∙ sym (ap (is_on_line ups k) (sym same) ∙ own_line ups k tree within)
  | inr (inl less) ↦ late_number k p less ∙ sym (past (is_on_line ups k p) refl less)
  | inr (inr more) ↦ absurd (omega (arith, low, more))
]
  where
    past : (b : Bool) → is_on_line ups k p ≡ b → k < p → is_on_line ups k p ≡ false
    past false e less = e
    past true e less = absurd (omega (arith, low_line ups (suc k) k p tree (omega arith) within e, less))

-- ---- nodes
pub no_parent : {P : Type 0} (boxes : List BoxFacts) (k : ℕ) → IsTree (parents boxes) → 0 < k → k < length boxes
    → (node_at boxes k).parent ≡ None → P
no_parent boxes k tree behind within is =
    let below = tree.below k behind (omega (arith, within, long boxes)) in
    absurd (no below.0 (sym below.1 ∙ (read boxes k within ∙ is)))
  where
    no : (p : ℕ) → Some p ≡ None → ⊥
    no p e = grind arith

pub rises_next : (boxes : List BoxFacts) (k p : ℕ) (on : Bool) → IsTree (parents boxes) → 0 < k → k < length boxes
    → RiseUpTo (parents boxes) k → (node_at boxes k).parent ≡ Some p → on ≡ is_on_line (parents boxes) (k - 1) p
    → IsTrue on ↔ (slice_cmp nat_cmp (path_of (parents boxes) (k - 1)) (path_of (parents boxes) k) ≡ Less)
rises_next boxes zero p on tree behind within rise is told = absurd (omega (arith, behind))
rises_next boxes (suc j) p on tree behind within rise is told =
    let ups = parents boxes in
    let here : suc j - 1 ≡ j = omega arith in
    let up : parent_at ups (suc j) ≡ Some p = read boxes (suc j) within ∙ is in
    let few : suc j < length ups = omega (arith, within, long boxes) in
    let same : on ≡ is_on_line ups j p = told ∙ ap (λ m. is_on_line ups m p) here in
    subst (λ m. IsTrue on ↔ (slice_cmp nat_cmp (path_of ups m) (path_of ups (suc j)) ≡ Less)) (sym here) (
      λ yes. rises_on_line ups j p tree few up (sym same ∙ yes),
      λ less. same ∙ on_line_if_less ups j p tree few up rise less,
    )
