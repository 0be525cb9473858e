-- How the listeners of a property are found, and who is alive.
use Rattle.std.proofs.Common.{◌≡◌, ◌==◌, ℕ, ◌+◌, ◌-◌, ◌≤◌, Bool, true, false, not, ◌&&◌, ltb, leb, eqb, List, ◌++◌, length, get_or, take, drop, filter, slice_range, Contains, IsTrue, ◌↔◌, refl, sym, ◌∙◌, ap, subst, inl, inr, arith, length-append}
use Rattle.std.specs.List.{find, list_any}
use Rattle.std.specs.List.Sorted.{IsNonDecreasingBy}
use Rattle.std.proofs.lemmas.Bool.{cases_eq, cases_lt, cases_order, lt-ltb, le-ltb, le-leb, lt-leb, eq-eqb, ne_eqb, eqb-true, and_from, and_left, and_right, and_parts, both_ways, false_from_ne_true}
use Rattle.std.proofs.lemmas.List.{take-append-drop, length-take-le, drop-take, drop_at}
use Rattle.std.proofs.lemmas.List.Elements.{filter-append, filter_agree}
use Rattle.std.proofs.lemmas.List.Folds.{list_any-from_Any}
use Rattle.std.proofs.lemmas.Map.Views.{Contains-from_any}
use Rattle.fx_handles.specs.declared.Owner.{Owner}
use Rattle.fx_handles.specs.Living.{is_same}
use Rattle.fx_listen.specs.declared.entries.ListenKind.{ListenKind}
use Rattle.fx_listen.specs.declared.entries.Listener.{Listener}
use Rattle.fx_listen.specs.Listening.{is_elsewhere, is_live, is_numbered, living_in, same_kind, tells}
use Rattle.fx_listen.specs.Sorting.{IsByName, is_above, is_below, is_from, is_heard, is_on, is_upto}
use Rattle.fx_listen.proofs.Cuts.{filter-filter, find-filter, find-same, list_any-filter, list_any-same}

pub names_rise : (listeners : List Listener) → IsByName listeners → IsNonDecreasingBy (λ (l : Listener). l.name.0) listeners
names_rise listeners sorted i j d order within =
    elim (cases_eq i j) [
      | inl same ↦
          let P : ℕ → Type 0 = λ k. (get_or listeners i d).name.0 ≤ (get_or listeners k d).name.0 in
          subst P same (omega arith)
      | inr other ↦ sorted i j d (omega (arith, order, other)) within
    ]

pub not_below : (a b : ℕ) → leb b a ≡ not (ltb a b)
not_below a b =
    elim (cases_lt a b) [
      | inl less ↦ rw (lt-ltb a b less, lt-leb b a less) refl
      | inr more ↦ rw (le-ltb a b more, le-leb b a more) refl
    ]

pub not_upto : (a b : ℕ) → ltb b a ≡ not (leb a b)
not_upto a b =
    elim (cases_lt b a) [
      | inl less ↦ rw (lt-ltb b a less, lt-leb a b less) refl
      | inr more ↦ rw (le-ltb b a more, le-leb a b more) refl
    ]

-- neither before the property nor behind it
in_between : (a b : ℕ) → (leb b a && leb a b) ≡ eqb a b
in_between a b =
    elim (cases_order a b) [
      | inl same ↦ and_from _ _ (le-leb b a (omega (arith, same))) (le-leb a b (omega (arith, same))) ∙ sym (eq-eqb a b same)
      | inr (inl less) ↦ and_left _ _ (lt-leb b a less) ∙ sym (ne_eqb a b (λ e. absurd (omega (arith, e, less))))
      | inr (inr more) ↦ and_right _ _ (lt-leb a b more) ∙ sym (ne_eqb a b (λ e. absurd (omega (arith, e, more))))
    ]

below_and_upto : (a b : ℕ) → (ltb a b && leb a b) ≡ ltb a b
below_and_upto a b =
    elim (cases_lt a b) [
      | inl less ↦ and_from _ _ (lt-ltb a b less) (le-leb a b (omega (arith, less))) ∙ sym (lt-ltb a b less)
      | inr more ↦ and_left _ _ (le-ltb a b more) ∙ sym (le-ltb a b more)
    ]

upto_but_on : (a b : ℕ) → (leb a b && not (eqb a b)) ≡ ltb a b
upto_but_on a b =
    elim (cases_order a b) [
      | inl same ↦ and_right _ _ (ap not (eq-eqb a b same)) ∙ sym (le-ltb a b (omega (arith, same)))
      | inr (inl less) ↦
          and_from _ _ (le-leb a b (omega (arith, less))) (ap not (ne_eqb a b (λ e. absurd (omega (arith, e, less)))))
          ∙ sym (lt-ltb a b less)
      | inr (inr more) ↦ and_left _ _ (lt-leb a b more) ∙ sym (le-ltb a b (omega (arith, more)))
    ]

above_but_on : (a b : ℕ) → (ltb b a && not (eqb a b)) ≡ ltb b a
above_but_on a b =
    elim (cases_lt b a) [
      | inl less ↦
          and_from _ _ (lt-ltb b a less) (ap not (ne_eqb a b (λ e. absurd (omega (arith, e, less)))))
          ∙ sym (lt-ltb b a less)
      | inr more ↦ and_left _ _ (le-ltb b a more) ∙ sym (le-ltb b a more)
    ]

-- the two places that binary searches give cut the listeners in three
module _ (name : ℕ) (all : List Listener) (first next : ℕ)
    (first_in : first ≤ length all) (next_in : next ≤ length all)
    (below : take first all ≡ filter (is_below name) all) (from : drop first all ≡ filter (is_from name) all)
    (upto : take next all ≡ filter (is_upto name) all) (above : drop next all ≡ filter (is_above name) all) where
  front_is : take next all ≡ take first all ++ filter (is_on name) all
  front_is =
      upto
      ∙ ap (filter (is_upto name)) (sym (take-append-drop first all))
      ∙ filter-append (is_upto name) (take first all) (drop first all)
      ∙ ap (λ (l : List Listener). filter (is_upto name) l ++ filter (is_upto name) (drop first all)) below
      ∙ ap (λ (l : List Listener). filter (is_upto name) (filter (is_below name) all) ++ filter (is_upto name) l) from
      ∙ ap (λ (l : List Listener). l ++ filter (is_upto name) (filter (is_from name) all))
      (filter-filter (is_upto name) (is_below name) all
      ∙ filter_agree (λ (l : Listener). is_below name l && is_upto name l) (is_below name) (λ l. below_and_upto l.name.0 name) all)
      ∙ ap (λ (l : List Listener). filter (is_below name) all ++ l)
      (filter-filter (is_upto name) (is_from name) all
      ∙ filter_agree (λ (l : Listener). is_from name l && is_upto name l) (is_on name) (λ l. in_between l.name.0 name) all)
      ∙ ap (λ (l : List Listener). l ++ filter (is_on name) all) (sym below)

  pub first_before_next : first ≤ next
  first_before_next =
      let long : next ≡ length (take first all ++ filter (is_on name) all) =
      sym (length-take-le next all next_in) ∙ ap length front_is in
      omega (arith, long, length-append (take first all) (filter (is_on name) all), length-take-le first all first_in)

  pub found_between : slice_range all first next ≡ filter (is_on name) all
  found_between =
      let e : first + (next - first) ≡ next = omega (arith, first_before_next) in
      sym (drop-take first (next - first) all)
      ∙ ap (λ (n : ℕ). drop first (take n all)) e
      ∙ ap (drop first) front_is
      ∙ drop_at (take first all) (filter (is_on name) all) first (length-take-le first all first_in)

  pub elsewhere_around : take first all ++ drop next all ≡ filter (is_elsewhere name) all
  elsewhere_around =
      sym
      (ap (filter (is_elsewhere name)) (sym (take-append-drop next all))
      ∙ filter-append (is_elsewhere name) (take next all) (drop next all)
      ∙ ap (λ (l : List Listener). filter (is_elsewhere name) l ++ filter (is_elsewhere name) (drop next all)) upto
      ∙ ap (λ (l : List Listener). filter (is_elsewhere name) (filter (is_upto name) all) ++ filter (is_elsewhere name) l) above
      ∙ ap (λ (l : List Listener). l ++ filter (is_elsewhere name) (filter (is_above name) all))
      (filter-filter (is_elsewhere name) (is_upto name) all
      ∙ filter_agree (λ (l : Listener). is_upto name l && is_elsewhere name l) (is_below name) (λ l. upto_but_on l.name.0 name) all)
      ∙ ap (λ (l : List Listener). filter (is_below name) all ++ l)
      (filter-filter (is_elsewhere name) (is_above name) all
      ∙ filter_agree (λ (l : Listener). is_above name l && is_elsewhere name l) (is_above name) (λ l. above_but_on l.name.0 name) all)
      ∙ ap (λ (l : List Listener). l ++ filter (is_above name) all) (sym below)
      ∙ ap (λ (l : List Listener). take first all ++ l) (sym above))

pub is_same-itself : (owner : Owner) → is_same owner owner ≡ true
is_same-itself owner = and_from _ _ (eq-eqb owner.slot owner.slot refl) (eq-eqb owner.birth owner.birth refl)

abbrev owner_of : ℕ → ℕ → Owner
owner_of slot birth = record { slot = slot; birth = birth }

pub is_same-true : (one other : Owner) → is_same one other ≡ true → one ≡ other
is_same-true one other same =
    let parts = and_parts (one.slot == other.slot) (one.birth == other.birth) same in
    ap (λ (slot : ℕ). owner_of slot one.birth) (eqb-true _ _ parts.0)
    ∙ ap (λ (birth : ℕ). owner_of other.slot birth) (eqb-true _ _ parts.1)

-- what `Owners::is_live` answers is what the definition asks
pub lives_as_contained : (living : List Owner) (owner : Owner) (answer : Bool)
    → (IsTrue answer ↔ Contains living owner) → answer ≡ list_any (is_same owner) living
lives_as_contained living owner true tells =
    let there = tells.0 refl in
    sym (list_any-from_Any (is_same owner) living (there.0, owner, there.1, there.2, is_same-itself owner))
lives_as_contained living owner false tells =
    sym
    (false_from_ne_true (list_any (is_same owner) living)
    (λ some. both_ways false refl (tells.1 (Contains-from_any is_same-true owner living some))))

-- who is heard on a property

and-assoc : (a b c : Bool) → (a && (b && c)) ≡ ((a && b) && c)
and-assoc true b c = refl
and-assoc false b c = refl

pub filter-heard-on : (living : List Owner) (name : ℕ) (kind : ListenKind) (all : List Listener)
    → filter (is_heard living kind) (filter (is_on name) all)
    ≡ filter (λ (l : Listener). tells name kind l && is_live living l) all
filter-heard-on living name kind all =
    filter-filter (is_heard living kind) (is_on name) all
    ∙ filter_agree (λ (l : Listener). is_on name l && is_heard living kind l) (λ (l : Listener). tells name kind l && is_live living l)
    (λ l. and-assoc (l.name.0 == name) (same_kind l.kind kind) (is_live living l)) all

pub list_any-heard-on : (living : List Owner) (name : ℕ) (kind : ListenKind) (all : List Listener)
    → list_any (is_heard living kind) (filter (is_on name) all)
    ≡ list_any (λ (l : Listener). tells name kind l && is_live living l) all
list_any-heard-on living name kind all =
    list_any-filter (is_heard living kind) (is_on name) all
    ∙ list_any-same (λ (l : Listener). is_on name l && is_heard living kind l) (λ (l : Listener). tells name kind l && is_live living l)
    (λ l. and-assoc (l.name.0 == name) (same_kind l.kind kind) (is_live living l)) all

last_first : (a b c : Bool) → (a && (b && c)) ≡ (c && (a && b))
last_first true true true = refl
last_first true true false = refl
last_first true false true = refl
last_first true false false = refl
last_first false b true = refl
last_first false b false = refl

pub find-numbered-on : (living : List Owner) (name number : ℕ) (all : List Listener)
    → find (λ (l : Listener). (l.number == number) && is_live living l) (filter (is_on name) all)
    ≡ find (is_numbered name number) (living_in living all)
find-numbered-on living name number all =
    find-filter (λ (l : Listener). (l.number == number) && is_live living l) (is_on name) all
    ∙ find-same (λ (l : Listener). is_on name l && ((l.number == number) && is_live living l))
    (λ (l : Listener). is_live living l && is_numbered name number l)
    (λ l. last_first (l.name.0 == name) (l.number == number) (is_live living l)) all
    ∙ sym (find-filter (is_numbered name number) (is_live living) all)
