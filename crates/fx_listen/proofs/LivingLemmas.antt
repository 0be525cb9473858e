-- What a change of the listeners or of the owners does to the living listeners. A store above cites these.
use Rattle.std.proofs.Common.{◌≡◌, ◌==◌, ℕ, ◌+◌, ◌≤◌, Bool, true, false, not, cond, ◌&&◌, ◌||◌, List, [], ◌∷◌, ◌++◌, filter, Contains, Option, Some, None, IfSome, refl, sym, ◌∙◌, ap, inl, inr, arith}
use Rattle.std.specs.List.{list_any}
use Rattle.std.proofs.lemmas.Bool.{and_parts, and_right, cases_Bool, ne_eqb}
use Rattle.std.proofs.lemmas.List.Elements.{All-contains, filter-append, filter_agree}
use Rattle.std.proofs.lemmas.List.Folds.{list_any-append}
use Rattle.std.proofs.lemmas.Map.Views.{any-filter_same}
use Rattle.fx_handles.specs.declared.Owner.{Owner}
use Rattle.fx_handles.specs.Living.{Register, after_make, after_release, is_same}
use Rattle.fx_listen.specs.declared.entries.ListenKind.{ListenKind}
use Rattle.fx_listen.specs.declared.entries.Listener.{Listener}
use Rattle.fx_listen.specs.Laws.{BirthRevivesNobody, ForgettingCommutes, HasBornOwner, PlacingCommutes, ReleaseEndsItsOwn, RemovingCommutes}
use Rattle.fx_listen.specs.Listening.{has_life, is_elsewhere, is_equal, is_live, living_in, same_owner, tells, without_first}
use Rattle.fx_listen.specs.Sorting.{is_above, is_upto}
use Rattle.fx_listen.proofs.Changes.{without_first-none}
use Rattle.fx_listen.proofs.Cuts.{Contains-later, and-comm, filter-filter, filter-same, filter-swap}
use Rattle.fx_listen.proofs.Finding.{is_same-true}

-- an addition

pub living_in-placed : PlacingCommutes
living_in-placed living listener entries lives =
    let name = listener.name.0 in
    filter-append (is_live living) (filter (is_upto name) entries) (listener ∷ filter (is_above name) entries)
    ∙ ap (λ (b : Bool). filter (is_live living) (filter (is_upto name) entries)
    ++ cond b (listener ∷ filter (is_live living) (filter (is_above name) entries)) (filter (is_live living) (filter (is_above name) entries))) lives
    ∙ ap (λ (l : List Listener). l ++ listener ∷ filter (is_live living) (filter (is_above name) entries)) (filter-swap (is_live living) (is_upto name) entries)
    ∙ ap (λ (l : List Listener). filter (is_upto name) (living_in living entries) ++ listener ∷ l) (filter-swap (is_live living) (is_above name) entries)

-- a removal

module _ (living : List Owner) (test : Listener → Bool) where
  -- the test passes only live ones
  pub living_in-without_first : (entries : List Listener)
      → ((l : Listener) → Contains entries l → test l ≡ true → is_live living l ≡ true)
      → living_in living (without_first test entries) ≡ without_first test (living_in living entries)
  living_in-without_first [] live = refl
  living_in-without_first (x ∷ xs) live =
      elim (cases_Bool (test x)) [
        | inl passes ↦ rw (passes, live x (0, omega arith, refl) passes, passes) refl
        | inr fails ↦
            rw fails
            (by_life (is_live living x) fails
            (living_in-without_first xs (λ l there. live l (Contains-later x xs l there))))
      ]
    where
      by_life : (b : Bool) → test x ≡ false
          → living_in living (without_first test xs) ≡ without_first test (living_in living xs)
          → cond b (x ∷ living_in living (without_first test xs)) (living_in living (without_first test xs))
          ≡ without_first test (cond b (x ∷ living_in living xs) (living_in living xs))
      by_life true fails rest = rw (fails, rest) refl
      by_life false fails rest = rest

  -- the test passes only dead ones
  pub living_in-without_first_dead : (entries : List Listener)
      → ((l : Listener) → Contains entries l → test l ≡ true → is_live living l ≡ false)
      → living_in living (without_first test entries) ≡ living_in living entries
  living_in-without_first_dead [] dead = refl
  living_in-without_first_dead (x ∷ xs) dead =
      elim (cases_Bool (test x)) [
        | inl passes ↦ rw (passes, dead x (0, omega arith, refl) passes) refl
        | inr fails ↦
            rw (fails, living_in-without_first_dead xs (λ l there. dead l (Contains-later x xs l there))) refl
      ]

same_owner-true : (one other : Option Owner) → same_owner one other ≡ true → one ≡ other
same_owner-true None None same = refl
same_owner-true None (Some other) same = cc
same_owner-true (Some one) None same = cc
same_owner-true (Some one) (Some other) same = ap Some (is_same-true one other same)

equal-owner : (name : ℕ) (kind : ListenKind) (owner : Option Owner) (tag : ℕ) (l : Listener)
    → is_equal name kind owner tag l ≡ true → l.owner ≡ owner
equal-owner name kind owner tag l equal =
    let rest = (and_parts (tells name kind l) (same_owner l.owner owner && (l.tag == tag)) equal).1 in
    same_owner-true l.owner owner (and_parts (same_owner l.owner owner) (l.tag == tag) rest).0

pub living_in-removed : RemovingCommutes
living_in-removed living name kind owner tag entries =
    let test : Listener → Bool = is_equal name kind owner tag in
    let life : (l : Listener) → test l ≡ true → is_live living l ≡ has_life living owner =
    λ l equal. ap (has_life living) (equal-owner name kind owner tag l equal) in
    elim (cases_Bool (has_life living owner)) [
      | inl lives ↦ living_in-without_first living test entries (λ l there equal. life l equal ∙ lives)
      | inr dead ↦
          living_in-without_first_dead living test entries (λ l there equal. life l equal ∙ dead)
          ∙ sym
          (without_first-none test (living_in living entries)
          (any-filter_same test (is_live living) false (λ l equal. life l equal ∙ dead) entries))
    ]

-- a property that is forgotten

pub living_in-forgotten : ForgettingCommutes
living_in-forgotten living name entries = filter-swap (is_live living) (is_elsewhere name) entries

-- an owner that is released

has_life-released : (register : Register) (owner : Owner) (o : Option Owner)
    → has_life (after_release register owner).living o ≡ (has_life register.living o && not (same_owner o (Some owner)))
has_life-released register owner None = refl
has_life-released register owner (Some o) =
    any-filter_same (is_same o) (λ (other : Owner). not (is_same other owner)) (not (is_same o owner))
    (λ other same. ap (λ (x : Owner). not (is_same x owner)) (sym (is_same-true o other same))) register.living
    ∙ and-comm (not (is_same o owner)) (list_any (is_same o) register.living)

pub living_in-released : ReleaseEndsItsOwn
living_in-released register owner entries =
    filter_agree (is_live (after_release register owner).living)
    (λ (l : Listener). is_live register.living l && not (same_owner l.owner (Some owner)))
    (λ l. has_life-released register owner l.owner) entries
    ∙ sym (filter-filter (λ (l : Listener). not (same_owner l.owner (Some owner))) (is_live register.living) entries)

-- an owner that is made

has_life-made : (register : Register) (owner : Owner) (o : Option Owner) → owner.birth ≡ register.born + 1
    → IfSome o (λ (other : Owner). other.birth ≤ register.born)
    → has_life (after_make register owner).living o ≡ has_life register.living o
has_life-made register owner None next born = refl
has_life-made register owner (Some o) next born =
    let other : is_same o owner ≡ false =
    and_right (o.slot == owner.slot) _ (ne_eqb o.birth owner.birth (λ e. absurd (omega (arith, e, next, born)))) in
    list_any-append (is_same o) register.living (owner ∷ [])
    ∙ ap (λ (b : Bool). list_any (is_same o) register.living || (b || false)) other
    ∙ or_false (list_any (is_same o) register.living)
  where
    or_false : (b : Bool) → (b || (false || false)) ≡ b
    or_false true = refl
    or_false false = refl

pub living_in-made : BirthRevivesNobody
living_in-made register owner entries next born =
    filter-same (is_live (after_make register owner).living) (is_live register.living) entries
    (λ l there. has_life-made register owner l.owner next (All-contains (HasBornOwner register.born) entries l born there))
