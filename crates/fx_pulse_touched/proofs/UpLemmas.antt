-- Marks that are handed up, from the last node to the first.
use Rattle.std.proofs.Common.{refl, sym, ap, subst, ◌∙◌, ◌≡◌, ℕ, zero, suc, ◌+◌, ◌<◌, ◌≤◌, ◌==◌, ◌⊎◌, ◌&&◌, Bool, true, false, cond, List, set, length, Option, None, Some, arith, zero-add, inl, inr}
use Rattle.std.specs.List.{list_any, range_with_len}
use Rattle.std.proofs.lemmas.Bool.{and_from, and_parts, cases_eq, cases_lt, eq-eqb, eqb-true, or_cases, or_left, or_right, true≢false}
use Rattle.std.proofs.lemmas.List.{get_or-set_other, get_or-set_same, get_or_past, length-set}
use Rattle.std.proofs.lemmas.List.Folds.{list_any_at}
use Rattle.std.proofs.lemmas.List.FromFn.{get_or-range_with_len, length-range_with_len}
use Rattle.fx_kinds.specs.declared.facts.BoxFacts.{BoxFacts}
use Rattle.fx_layout_sweeps.specs.Marks.{flag_in}
use Rattle.fx_layout_sweeps.specs.Nodes.{IsTree, Parents, node_at, parent_at, parents}
use Rattle.fx_pulse_model.proofs.LineLemmas.{any_child, any_root, before}
use Rattle.fx_pulse_touched.specs.Marks.{AreHandedUp, is_above, is_on_line, marked_up}
use Rattle.fx_pulse_touched.proofs.ToldLemmas.{long, read}

-- ---- some of a range
pub any_weaker : (f g : ℕ → Bool) (a m : ℕ) → ((j : ℕ) → a ≤ j → j < a + m → f j ≡ true → g j ≡ true)
    → list_any f (range_with_len a m) ≡ true → list_any g (range_with_len a m) ≡ true
any_weaker f g a zero weaker some = absurd (true≢false (sym some))
any_weaker f g a (suc m) weaker some = elim (or_cases (f a) (list_any f (range_with_len (a + 1) m)) some) [
  | inl here ↦ or_left (g a) (list_any g (range_with_len (a + 1) m)) (weaker a (omega arith) (omega arith) here)
  | inr rest ↦ or_right (g a) (list_any g (range_with_len (a + 1) m))
      (any_weaker f g (a + 1) m (λ j after below. weaker j (omega (arith, after)) (omega (arith, below))) rest)
]

pub any_here : (f : ℕ → Bool) (n k : ℕ) → k < n → f k ≡ true → list_any f (range_with_len 0 n) ≡ true
any_here f n k within is =
    let many = length-range_with_len 0 n in
    list_any_at f (range_with_len 0 n) k 0 (omega (arith, within, many))
    (ap f (get_or-range_with_len 0 n k 0 within ∙ zero-add k) ∙ is)

-- ---- lines
pub own_line : (ups : Parents) (k : ℕ) → IsTree ups → k < length ups → is_on_line ups k k ≡ true
own_line ups k tree within = by (parent_at ups k) refl
  where
    by : (o : Option ℕ) → parent_at ups k ≡ o → is_on_line ups k k ≡ true
    by None is = any_root ups (λ p. p == k) k is ∙ eq-eqb k k refl
    by (Some q) is =
        any_child ups (λ p. p == k) k q tree within is
        ∙ or_right (is_on_line ups q k) (k == k) (eq-eqb k k refl)

some_none : (p : ℕ) → Some p ≡ None → ⊥
some_none p e = grind arith

same_some : (p q : ℕ) → Some p ≡ Some q → p ≡ q
same_some p q e = cc

-- the parent of a place on a line stands on it too
line_up : (ups : Parents) (fuel j k p : ℕ) → IsTree ups → j < fuel → j < length ups → parent_at ups k ≡ Some p
    → is_on_line ups j k ≡ true → is_on_line ups j p ≡ true
line_up ups zero j k p tree few within up on = absurd (omega (arith, few))
line_up ups (suc fuel) j k p tree few within up on =
    by (parent_at ups j) refl
    (λ q less above. line_up ups fuel q k p tree (omega (arith, less, few)) (omega (arith, less, within)) up above)
  where
    by : (o : Option ℕ) → parent_at ups j ≡ o
        → ((q : ℕ) → q < j → is_on_line ups q k ≡ true → is_on_line ups q p ≡ true) → is_on_line ups j p ≡ true
    by None is rest =
        let here : (j == k) ≡ true = sym (any_root ups (λ i. i == k) j is) ∙ on in
        absurd (some_none p (sym up ∙ (sym (ap (parent_at ups) (eqb-true j k here)) ∙ is)))
    by (Some q) is rest =
        let less : q < j = before ups j q tree within is in
        any_child ups (λ i. i == p) j q tree within is
        ∙ elim (or_cases (is_on_line ups q k) (j == k) (sym (any_child ups (λ i. i == k) j q tree within is) ∙ on)) [
          | inl above ↦ or_left (is_on_line ups q p) (j == p) (rest q less above)
          | inr here ↦ or_left (is_on_line ups q p) (j == p)
              (let same : q ≡ p = same_some q p (sym is ∙ (ap (parent_at ups) (eqb-true j k here) ∙ up)) in
              ap (is_on_line ups q) (sym same) ∙ own_line ups q tree (omega (arith, less, within)))
        ]

-- ---- what is above
pub above_own : (ups : Parents) (test : ℕ → Bool) (k : ℕ) → IsTree ups → k < length ups → test k ≡ true
    → is_above ups test k ≡ true
above_own ups test k tree within is =
    any_here (λ j. test j && is_on_line ups j k) (length ups) k within
    (and_from (test k) (is_on_line ups k k) is (own_line ups k tree within))

above_up : (ups : Parents) (test : ℕ → Bool) (k p : ℕ) → IsTree ups → parent_at ups k ≡ Some p
    → is_above ups test k ≡ true → is_above ups test p ≡ true
above_up ups test k p tree up above =
    any_weaker (λ j. test j && is_on_line ups j k) (λ j. test j && is_on_line ups j p) 0 (length ups)
    (λ j after below both.
    let parts = and_parts (test j) (is_on_line ups j k) both in
    and_from (test j) (is_on_line ups j p) parts.0
    (line_up ups (suc j) j k p tree (omega arith) (omega (arith, below)) up parts.1))
    above

pub above_weaker : (ups : Parents) (test other : ℕ → Bool) (k : ℕ)
    → ((j : ℕ) → j < length ups → test j ≡ true → other j ≡ true) → is_above ups test k ≡ true
    → is_above ups other k ≡ true
above_weaker ups test other k weaker above =
    any_weaker (λ j. test j && is_on_line ups j k) (λ j. other j && is_on_line ups j k) 0 (length ups)
    (λ j after below both.
    let parts = and_parts (test j) (is_on_line ups j k) both in
    and_from (other j) (is_on_line ups j k) (weaker j (omega (arith, below)) parts.0) parts.1)
    above

-- ---- marks
pub flag_past : (marks : List Bool) (k : ℕ) → flag_in marks k ≡ true → k < length marks
flag_past marks k is = elim (cases_lt k (length marks)) [
  | inl within ↦ within
  | inr past ↦ absurd (true≢false (sym is ∙ get_or_past marks k false past))
]

pub set_kept : (marks : List Bool) (p k : ℕ) → flag_in marks k ≡ true → flag_in (set marks p true) k ≡ true
set_kept marks p k is = elim (cases_eq k p) [
  | inl same ↦ ap (flag_in (set marks p true)) same
      ∙ get_or-set_same marks p true false (subst (λ n. n < length marks) same (flag_past marks k is))
  | inr other ↦ get_or-set_other marks p k true false other ∙ is
]

pub set_only : (marks : List Bool) (p k : ℕ) → flag_in (set marks p true) k ≡ true → (k ≡ p) ⊎ (flag_in marks k ≡ true)
set_only marks p k is = elim (cases_eq k p) [
  | inl same ↦ inl same
  | inr other ↦ inr (sym (get_or-set_other marks p k true false other) ∙ is)
]

pub up_first : (boxes : List BoxFacts) (marks : List Bool) → IsTree (parents boxes) → length marks ≡ length boxes
    → AreHandedUp (parents boxes) marks marks (length boxes)
up_first boxes marks tree each = record {
  each = each ∙ sym (long boxes);
  kept = λ k is. is;
  closed = λ j p late within. absurd (omega (arith, late, within, long boxes));
  only = λ k is. above_own (parents boxes) (flag_in marks) k tree
      (omega (arith, flag_past marks k is, each, long boxes)) is;
}

-- the next node's parent is marked, if the node is
pub up_next : (boxes : List BoxFacts) (first marks : List Bool) (from : ℕ) → IsTree (parents boxes)
    → from < length boxes → AreHandedUp (parents boxes) first marks (suc from)
    → AreHandedUp (parents boxes) first (marked_up (node_at boxes from).parent (flag_in marks from) marks) from
up_next boxes first marks from tree within up = by (node_at boxes from).parent refl (flag_in marks from) refl
  where
    ups : Parents
    ups = parents boxes

    none : (node_at boxes from).parent ≡ None → AreHandedUp ups first marks from
    none is = record {
      each = up.each;
      kept = up.kept;
      closed = λ j p late inside above marked. elim (cases_eq j from) [
        | inl same ↦ absurd (some_none p (sym above ∙ (ap (parent_at ups) same ∙ (read boxes from within ∙ is))))
        | inr other ↦ up.closed j p (later j late other) inside above marked
      ];
      only = up.only;
    }
      where
        later : (j : ℕ) → from ≤ j → (j ≡ from → ⊥) → suc from ≤ j
        later j late other = grind arith

    off : flag_in marks from ≡ false → AreHandedUp ups first marks from
    off is = record {
      each = up.each;
      kept = up.kept;
      closed = λ j p late inside above marked. elim (cases_eq j from) [
        | inl same ↦ absurd (true≢false (sym marked ∙ (ap (flag_in marks) same ∙ is)))
        | inr other ↦ up.closed j p (later j late other) inside above marked
      ];
      only = up.only;
    }
      where
        later : (j : ℕ) → from ≤ j → (j ≡ from → ⊥) → suc from ≤ j
        later j late other = grind arith

    on : (q : ℕ) → (node_at boxes from).parent ≡ Some q → flag_in marks from ≡ true
        → AreHandedUp ups first (set marks q true) from
    on q is marked_here = record {
      each = length-set marks q true ∙ up.each;
      kept = λ k was. set_kept marks q k (up.kept k was);
      closed = λ j p late inside above marked. elim (cases_eq j from) [
        | inl same ↦ (
            let parent : q ≡ p = same_some q p (sym is ∙ (sym (read boxes from within)
            ∙ (sym (ap (parent_at ups) same) ∙ above))) in
            ap (flag_in (set marks q true)) (sym parent)
            ∙ get_or-set_same marks q true false (omega (arith, less, within, up.each, long boxes)))
        | inr other ↦ set_kept marks q p (up.closed j p (later j late other) inside above
            (elim (set_only marks q j marked) [
              | inl here ↦ absurd (omega (arith, here, less, late))
              | inr was ↦ was
            ]))
      ];
      only = λ k now. elim (set_only marks q k now) [
        | inl here ↦ ap (is_above ups (flag_in first)) here
            ∙ above_up ups (flag_in first) from q tree (read boxes from within ∙ is) (up.only from marked_here)
        | inr was ↦ up.only k was
      ];
    }
      where
        less : q < from
        less = before ups from q tree (omega (arith, within, long boxes)) (read boxes from within ∙ is)

        later : (j : ℕ) → from ≤ j → (j ≡ from → ⊥) → suc from ≤ j
        later j late other = grind arith

    by : (o : Option ℕ) → (node_at boxes from).parent ≡ o → (b : Bool) → flag_in marks from ≡ b
        → AreHandedUp ups first (marked_up (node_at boxes from).parent (flag_in marks from) marks) from
    by None is b flag =
        subst (λ (o : Option ℕ). AreHandedUp ups first (marked_up o (flag_in marks from) marks) from) (sym is) (none is)
    by (Some q) is false flag =
        subst (λ (o : Option ℕ). AreHandedUp ups first (marked_up o (flag_in marks from) marks) from) (sym is)
        (subst (λ (t : Bool). AreHandedUp ups first (cond t (set marks q true) marks) from) (sym flag) (off flag))
    by (Some q) is true flag =
        subst (λ (o : Option ℕ). AreHandedUp ups first (marked_up o (flag_in marks from) marks) from) (sym is)
        (subst (λ (t : Bool). AreHandedUp ups first (cond t (set marks q true) marks) from) (sym flag) (on q is flag))
