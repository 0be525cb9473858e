-- Who reads a name that is to go: the test finds just those who speak against it.
use Rattle.std.proofs.Common.{◌≡◌, ℕ, ◌==◌, ◌↔◌, true, false, List, length, Contains, Ok, Err, refl, subst, inl, inr}
use Rattle.std.specs.List.{range_with_len}
use Rattle.std.proofs.lemmas.Bool.{and_from, and_parts, both_ways, cases_Bool, eq-eqb, eqb-true, false_from_ne_true, not-true, not_from_false}
use Rattle.fx_base.specs.Names.{numbers}
use Rattle.fx_base.specs.declared.keys.Name.{Name}
use Rattle.fx_graph_model.specs.declared.entries.Entry.{Entry}
use Rattle.fx_graph_model.specs.declared.errors.GraphError.{GraphError}
use Rattle.fx_graph_model.specs.declared.errors.GraphError.TheVariants as graph
use Rattle.fx_graph_model.specs.Refusals.{IsForgetRefusal, IsFree}
use Rattle.fx_graph_model.specs.Uses.{uses}
use Rattle.fx_graph_model.proofs.Members.{any_at, any_from, in_range}
use Rattle.fx_graph_model.proofs.Walks.{user_within}
use Rattle.fx_store_pairs.specs.Pairs.{is_among}
use Rattle.fx_store_model.specs.declared.errors.StoreError.TheVariants as error
use Rattle.fx_store_model.specs.Causes.{of_graph}
use Rattle.fx_store_model.specs.Refusals.{IsForgetAnswer, is_outside_reader, is_read_outside}

pub among_from : (names : List ℕ) (name : ℕ) → Contains names name → is_among names name ≡ true
among_from names name c = any_at (λ (other : ℕ). other == name) names name c (eq-eqb name name refl)

pub among_in : (names : List ℕ) (name : ℕ) → is_among names name ≡ true → Contains names name
among_in names name e =
    let found = any_from (λ (other : ℕ). other == name) names e in
    subst (Contains names) (eqb-true found.0 name found.2) found.1

pub among_not : (names : List ℕ) (name : ℕ) → is_among names name ≡ false → Contains names name → ⊥
among_not names name e c = both_ways _ e (among_from names name c)

-- whoever isn't among the names and uses one of them is found
pub outside_found : (names : List ℕ) (es : List Entry) (user used : ℕ) → (Contains names user → ⊥) → Contains names used
    → Contains (uses es user) used → is_read_outside names es ≡ true
unfolding is_read_outside
outside_found names es user used out inside reads =
    any_at (is_outside_reader names es) (range_with_len 0 (length es)) user (in_range (length es) user (user_within es user used reads))
    (and_from _ _ (not_from_false _ (false_from_ne_true _ (λ e. out (among_in names user e))))
    (any_at (is_among names) (uses es user) used reads (among_from names used inside)))

pub free_from : (names : List ℕ) (es : List Entry) → is_read_outside names es ≡ false → IsFree names es
free_from names es none user used inside reads =
    elim (cases_Bool (is_among names user)) [
      | inl here ↦ among_in names user here
      | inr out ↦ absurd (both_ways _ none (outside_found names es user used (among_not names user out) inside reads))
    ]

pub outside_none : (names : List ℕ) (es : List Entry) → IsFree names es → is_read_outside names es ≡ false
unfolding is_read_outside
outside_none names es free =
    false_from_ne_true _
    (λ e.
    let found = any_from (is_outside_reader names es) (range_with_len 0 (length es)) e in
    let parts = and_parts _ _ found.2 in
    let used = any_from (is_among names) (uses es found.0) parts.1 in
    both_ways _ (not-true _ parts.0) (among_from names found.0 (free found.0 used.0 (among_in names used.0 used.2) used.1)))

pub outside_is_free : (names : List ℕ) (es : List Entry) → (is_read_outside names es ≡ false) ↔ IsFree names es
outside_is_free names es = (free_from names es, outside_none names es)

-- what the answers say of it

pub forgotten_unread : (T : Type 0) (names : List Name) (es : List Entry) (value : T) → IsForgetAnswer {T = T} names es (Ok value)
    → is_read_outside (numbers names) es ≡ false
forgotten_unread T names es value answer = outside_none (numbers names) es answer.1

used_by : (names : List Name) (es : List Entry) (user : Name) (refused : GraphError) → IsForgetRefusal names es refused
    → error.InUse user ≡ of_graph refused → is_read_outside (numbers names) es ≡ true
used_by names es user (graph.InUse other) r e = outside_found (numbers names) es other.0 r.2.0 r.1 r.2.1 r.2.2
used_by names es user (graph.Unknown other) r e =
    let clash : error.InUse user ≡ error.Unknown other = e in
    absurd (cc)
used_by names es user (graph.ReadOnly other) r e = absurd r
used_by names es user (graph.WrongKind other) r e = absurd r
used_by names es user (graph.Bound other) r e = absurd r
used_by names es user (graph.Cycle other) r e = absurd r
used_by names es user graph.Full r e = absurd r
used_by names es user graph.Memory r e = absurd r

pub used_outside : (T : Type 0) (names : List Name) (es : List Entry) (user : Name)
    → IsForgetAnswer {T = T} names es (Err (error.InUse user)) → is_read_outside (numbers names) es ≡ true
used_outside T names es user (inl refused) = used_by names es user refused.0 refused.1 refused.2
used_outside T names es user (inr short) = absurd (cc)
