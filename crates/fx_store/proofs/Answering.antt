-- What is known where a change isn't refused, and the answers of the graph as those of the store.
use Rattle.std.proofs.Common.{◌≡◌, ◌↔◌, ◌⊎◌, ℕ, ◌==◌, ◌||◌, ◌<◌, nat_le, Bool, true, false, cond, List, [], ◌∷◌, length, Contains, Option, Some, None, Result, Ok, Err, refl, sym, subst, ap, inl, inr, ◌∙◌}
use Rattle.std.proofs.lemmas.Bool.{cases_Bool, eq-eqb, eqb-false, eqb-true, leb-false}
use Rattle.fx_base.specs.Answers.{IsAnswer, or_else}
use Rattle.fx_base.specs.declared.keys.Name.{Name}
use Rattle.fx_base.specs.declared.values.Value.{Value}
use Rattle.fx_expr.specs.Tree.{Tree}
use Rattle.fx_store_model.specs.declared.errors.StoreError.{StoreError}
use Rattle.fx_store_model.specs.declared.errors.StoreError.TheVariants as error
use Rattle.fx_handles.specs.declared.Owner.{Owner}
use Rattle.fx_handles.specs.declared.OwnerError.{OwnerError}
use Rattle.fx_handles.specs.declared.OwnerError.TheVariants as owner_error
use Rattle.fx_handles.specs.Living.{Register}
use Rattle.fx_store_model.specs.Causes.{of_graph, of_owner}
use Rattle.fx_store_model.specs.Refusals as store
use Rattle.fx_store_model.specs.Refusals.{of_graph_refusal, owner_refusal, pair_refusal, refused_if, refused_pair, unknown_of}
use Rattle.fx_store_pairs.specs.Pairs.{is_paired}
use Rattle.fx_graph_model.specs.declared.entries.Entry.{Entry}
use Rattle.fx_graph_model.specs.declared.errors.GraphError.{GraphError}
use Rattle.fx_graph_model.specs.declared.errors.GraphError.TheVariants as graph_error
use Rattle.fx_graph_model.specs.Equality.{same_kind}
use Rattle.fx_graph_model.specs.Refusals as graph
use Rattle.fx_graph_model.specs.Refusals.{fit_refusal, kind_at, link_refusal, publish_refusal, read_only_in, unknown_name}
use Rattle.fx_graph_model.specs.Uses.{bound_in, unknown_in}
use Rattle.fx_graph_model.proofs.Members.{contains_first, contains_later}
use Rattle.fx_graph_model.proofs.Refusing.{or_else_none, publishable, refused_none}
use Rattle.fx_graph_model.proofs.Same.{Decides-kind}
use Rattle.fx_store.proofs.Twins.{IsOwn, own_from}

-- refusals of the graph

pub graph_none : (refusal : Option GraphError) → of_graph_refusal refusal ≡ None → refusal ≡ None
graph_none None e = refl
graph_none (Some cause) e = absurd (cc)

pub graph_ok : (T : Type 0) (refusal : Option GraphError) (value : T) → IsAnswer graph_error.Memory refusal (Ok value) → refusal ≡ None
graph_ok T None value answer = refl
graph_ok T (Some refused) value answer = absurd answer

pub ok_as : (T U : Type 0) (refused : Option StoreError) (one : T) (other : U) → IsAnswer error.Memory refused (Ok one)
    → IsAnswer error.Memory refused (Ok other)
ok_as T U None one other answer = tt
ok_as T U (Some cause) one other answer = answer

pub answer_ok : (T : Type 0) (refusal : Option StoreError) (value : T) → refusal ≡ None → IsAnswer error.Memory refusal (Ok value)
answer_ok T refusal value none = subst (λ r. IsAnswer {T = T} error.Memory r (Ok value)) (sym none) tt

pub answer_err : (T : Type 0) (refusal : Option StoreError) (cause : StoreError) → refusal ≡ Some cause
    → IsAnswer {T = T} error.Memory refusal (Err cause)
answer_err T refusal cause some = subst (λ r. IsAnswer {T = T} error.Memory r (Err cause)) (sym some) (inl refl)

-- memory may want in each call
pub wanting : (T : Type 0) (refused : Option StoreError) → IsAnswer {T = T} error.Memory refused (Err error.Memory)
wanting T None = refl
wanting T (Some cause) = inr refl

-- where nothing is refused only memory wants
pub graph_short : (T : Type 0) (refusal : Option GraphError) (cause : GraphError) → refusal ≡ None → IsAnswer {T = T} graph_error.Memory refusal (Err cause)
    → of_graph cause ≡ error.Memory
graph_short T refusal cause none answer =
    ap of_graph (subst (λ (r : Option GraphError). IsAnswer {T = T} graph_error.Memory r (Err cause)) none answer)

-- refusals of owners

-- the limits are reached
abbrev pub IsFullOf : Register → Type 0
IsFullOf owners = (length owners.living ≡ 10000) ⊎ (owners.born ≡ 4294967295)

full_if : (living born : Bool) → (living ≡ true) ⊎ (born ≡ true) → refused_if (living || born) error.Full ≡ Some error.Full
full_if living born (inl first) = rw first refl
full_if true born (inr second) = refl
full_if false born (inr second) = rw second refl

owner_full : (owners : Register) → IsFullOf owners → owner_refusal owners ≡ Some error.Full
owner_full owners (inl living) = full_if _ _ (inl (eq-eqb _ _ living))
owner_full owners (inr born) = full_if _ _ (inr (eq-eqb _ _ born))

owner_free : (owners : Register) → (IsFullOf owners → ⊥) → owner_refusal owners ≡ None
owner_free owners room =
    elim (cases_Bool (length owners.living == 10000)) [
      | inl living ↦ absurd (room (inl (eqb-true _ _ living)))
      | inr few ↦ elim (cases_Bool (owners.born == 4294967295)) [
        | inl born ↦ absurd (room (inr (eqb-true _ _ born)))
        | inr low ↦ rw (few, low) refl
      ]
    ]

abbrev IsFullAnswer : Register → Result Owner OwnerError → Type 0
IsFullAnswer owners result = (result ≡ Err owner_error.Full) ↔ IsFullOf owners

pub owner_err : (owners : Register) (cause : OwnerError) → IsFullAnswer owners (Err cause)
    → IsAnswer {T = Owner} error.Memory (owner_refusal owners) (Err (of_owner cause))
owner_err owners owner_error.Full full = answer_err Owner (owner_refusal owners) error.Full (owner_full owners (full.0 refl))
owner_err owners owner_error.Memory full = wanting Owner (owner_refusal owners)

ok_never : (owner : Owner) → (Ok owner ≡ Err owner_error.Full → ⊥)
ok_never owner e = absurd (cc)

pub owner_ok : (owners : Register) (owner : Owner) → IsFullAnswer owners (Ok owner)
    → IsAnswer error.Memory (owner_refusal owners) (Ok owner)
owner_ok owners owner full =
    answer_ok Owner (owner_refusal owners) owner (owner_free owners (λ limits. ok_never owner (full.1 limits)))

-- one refusal behind another

refused_not : (so : Bool) (cause : StoreError) → refused_if so cause ≡ None → so ≡ false
refused_not true cause e = absurd (cc)
refused_not false cause e = refl

either_graph : (one others : Option GraphError)
    → or_else (of_graph_refusal one) (of_graph_refusal others) ≡ of_graph_refusal (or_else one others)
either_graph None others = refl
either_graph (Some refusal) others = refl

-- the two may be joined
pub record ArePairable (entries : List Entry) (pairs : List (ℕ × ℕ)) (one other : ℕ) : Type 0 where
  pub one_own : IsOwn entries one
  pub other_own : IsOwn entries other
  pub kind : kind_at entries one ≡ kind_at entries other
  pub differ : one ≡ other → ⊥
  pub room : length pairs < 10000

of_both : (cause : Name → StoreError) (test : ℕ → Bool) (one other : Name) → refused_pair cause test one other ≡ None
    → (test one.0 ≡ false) × (test other.0 ≡ false)
of_both cause test one other e =
    let parts = or_else_none (refused_if (test one.0) (cause one)) (refused_if (test other.0) (cause other)) e in
    (refused_not (test one.0) (cause one) parts.0, refused_not (test other.0) (cause other) parts.1)

of_one_kind : (so : Bool) (cause : StoreError) → cond so None (Some cause) ≡ None → so ≡ true
of_one_kind true cause e = refl
of_one_kind false cause e = absurd (cc)

known_both : (one other : Name) (es : List Entry) → unknown_of (one ∷ other ∷ []) es ≡ None
    → (unknown_in es one.0 ≡ false) × (unknown_in es other.0 ≡ false)
known_both one other es e =
    let each : (n : Name) → Contains (one ∷ other ∷ []) n → unknown_in es n.0 ≡ false =
    refused_none graph_error.Unknown (λ (n : Name). unknown_in es n.0) (one ∷ other ∷ [])
    (graph_none (unknown_name es (one ∷ other ∷ [])) e) in
    (each one (contains_first one (other ∷ [])), each other (contains_later one (other ∷ []) other (contains_first other [])))

pub pairable : (one other : Name) (es : List Entry) (pairs : List (ℕ × ℕ)) → pair_refusal one other es pairs ≡ None
    → ArePairable es pairs one.0 other.0
unfolding pair_refusal
pairable one other es pairs e =
    let first = or_else_none (unknown_of (one ∷ other ∷ []) es) _ e in
    let known = known_both one other es first.0 in
    let second = or_else_none (refused_pair error.ReadOnly (read_only_in es) one other) _ first.1 in
    let free = of_both error.ReadOnly (read_only_in es) one other second.0 in
    let third = or_else_none (cond (same_kind (kind_at es one.0) (kind_at es other.0)) None (Some (error.WrongKind other))) _ second.1 in
    let fourth = or_else_none (refused_pair error.Mixed (bound_in es) one other) _ third.1 in
    let unbound = of_both error.Mixed (bound_in es) one other fourth.0 in
    let fifth = or_else_none (refused_if (one.0 == other.0) error.Same) _ fourth.1 in
    let few : nat_le 10000 (length pairs) ≡ false = refused_not (nat_le 10000 (length pairs)) error.Full fifth.1 in
    record {
      one_own = own_from es one.0 known.0 free.0 unbound.0;
      other_own = own_from es other.0 known.1 free.1 unbound.1;
      kind = (Decides-kind (kind_at es one.0) (kind_at es other.0)).0
          (of_one_kind (same_kind (kind_at es one.0) (kind_at es other.0)) (error.WrongKind other) third.0);
      differ = eqb-false one.0 other.0 (refused_not (one.0 == other.0) error.Same fifth.0);
      room = leb-false 10000 (length pairs) few;
    }

-- a name that isn't in a pair is bound as the graph says
pub bind_free : (name : Name) (expr : Tree) (operands : List Name) (es : List Entry) (pairs : List (ℕ × ℕ)) → is_paired pairs name.0 ≡ false
    → store.bind_refusal name expr operands es pairs ≡ of_graph_refusal (graph.bind_refusal name expr operands es)
unfolding store.bind_refusal graph.bind_refusal
bind_free name expr operands es pairs free =
    ap
    (λ (so : Bool). or_else (of_graph_refusal (fit_refusal name expr operands es))
    (or_else (refused_if so (error.Mixed name)) (of_graph_refusal (link_refusal name expr operands es)))) free
    ∙ either_graph (fit_refusal name expr operands es) (link_refusal name expr operands es)

-- one that is in a pair is never bound
pub bind_mixed : (name : Name) (expr : Tree) (operands : List Name) (es : List Entry) (pairs : List (ℕ × ℕ)) → is_paired pairs name.0 ≡ true
    → store.bind_refusal name expr operands es pairs
    ≡ or_else (of_graph_refusal (fit_refusal name expr operands es)) (Some (error.Mixed name))
unfolding store.bind_refusal
bind_mixed name expr operands es pairs paired =
    ap
    (λ (so : Bool). or_else (of_graph_refusal (fit_refusal name expr operands es))
    (or_else (refused_if so (error.Mixed name)) (of_graph_refusal (link_refusal name expr operands es)))) paired

-- so is one that may be bound in no pair, and may be bound as the graph says
pub bind_may : (name : Name) (expr : Tree) (operands : List Name) (es : List Entry) (pairs : List (ℕ × ℕ))
    → store.bind_refusal name expr operands es pairs ≡ None
    → (is_paired pairs name.0 ≡ false) × (graph.bind_refusal name expr operands es ≡ None)
bind_may name expr operands es pairs none =
    elim (cases_Bool (is_paired pairs name.0)) [
      | inl paired ↦
          let e = sym (bind_mixed name expr operands es pairs paired) ∙ none in
          let parts = or_else_none (of_graph_refusal (fit_refusal name expr operands es)) (Some (error.Mixed name)) e in
          let never : Some (error.Mixed name) ≡ None = parts.1 in
          absurd (cc)
      | inr free ↦
          (free, graph_none (graph.bind_refusal name expr operands es) (sym (bind_free name expr operands es pairs free) ∙ none))
    ]

-- what is published is read-only
pub published_only : (words : List (Name × Value)) (es : List Entry) → publish_refusal words es ≡ None
    → ((pair : Name × Value) → Contains words pair → unknown_in es pair.0.0 ≡ false → read_only_in es pair.0.0 ≡ true)
    → (pair : Name × Value) → Contains words pair → read_only_in es pair.0.0 ≡ true
published_only words es e fit pair c = fit pair c (publishable words es e pair c).0
