-- What is known where a call isn't refused, and tests in the order of the definition.
use Rattle.std.proofs.Common.{◌≡◌, ℕ, zero, suc, ◌<◌, ◌≤◌, Bool, true, false, cond, not, ◌||◌, List, [], ◌∷◌, map, replicate, refl, sym, ◌∙◌, ap, subst, inl, inr, ◌⊎◌, Option, Some, None}
use Rattle.std.specs.List.{Contains}
use Rattle.std.proofs.lemmas.Bool.{cases_Bool, both_ways, ltb-false, not-false, false≢true}
use Rattle.std.proofs.lemmas.List.{length-replicate}
use Rattle.fx_base.specs.Printing.{kind_of}
use Rattle.fx_base.specs.declared.keys.Name.{Name}
use Rattle.fx_base.specs.declared.kinds.Kind.{Kind}
use Rattle.fx_base.specs.declared.values.Value.{Value}
use Rattle.fx_expr.specs.Tree.{Tree}
use Rattle.fx_expr.specs.Typing.{kind_in}
use Rattle.fx_graph_model.specs.declared.entries.Entry.{Entry}
use Rattle.fx_graph_model.specs.declared.errors.GraphError.{GraphError}
use Rattle.fx_graph_model.specs.declared.errors.GraphError.TheVariants.{Unknown, ReadOnly, WrongKind, Bound, Cycle}
use Rattle.fx_graph_model.specs.Changes.{with_binding}
use Rattle.fx_graph_model.specs.Equality.{same_kind}
use Rattle.fx_graph_model.specs.Marking.{IsClosedBut}
use Rattle.fx_base.specs.Names.{numbers}
use Rattle.fx_base.specs.Answers.{or_else, refused_first}
use Rattle.fx_graph_model.specs.Refusals.{unknown_name, read_only_in, kind_at, pair_names, wrong_kind, set_refusal, publish_refusal, fit_refusal, link_refusal, bind_refusal, is_of, operand_count}
use Rattle.fx_graph_model.specs.Unread.{marked, leads_to_any, after_marking}
use Rattle.fx_graph_model.specs.Uses.{bound_in, unknown_in, leads}
use Rattle.fx_graph_model.proofs.Same.{Decides-kind}
use Rattle.fx_graph_model.proofs.Members.{none_in_nil, contains_first, contains_later, contains_cases, contains_map, map_contains}
use Rattle.fx_graph_model.proofs.Walks.{any-one}
use Rattle.fx_graph_model.proofs.Changed.{marked-marking}

pub or_else_none : {E : Type 0} (one other : Option E) → or_else one other ≡ None → (one ≡ None) × (other ≡ None)
or_else_none None other e = (refl, e)
or_else_none (Some refusal) other e = absurd (cc)

pub refused_none : {X E : Type 0} (error : X → E) (test : X → Bool) (xs : List X) → refused_first error test xs ≡ None
    → (x : X) → Contains xs x → test x ≡ false
refused_none error test [] e x c = absurd (none_in_nil x c)
refused_none {X} {E} error test (y ∷ ys) e x c = by_first (refused_none error test ys) (cases_Bool (test y)) (contains_cases y ys x c)
  where
    opened : (b : Bool) → test y ≡ b → cond b (Some (error y)) (refused_first error test ys) ≡ None
    opened b h = subst (λ (t : Bool). cond t (Some (error y)) (refused_first error test ys) ≡ None) h e

    by_first : (refused_first error test ys ≡ None → (z : X) → Contains ys z → test z ≡ false)
        → (test y ≡ true) ⊎ (test y ≡ false) → (y ≡ x) ⊎ Contains ys x → test x ≡ false
    by_first rest (inl passes) _ = let h : Some (error y) ≡ None = opened true passes in absurd (cc)
    by_first rest (inr fails) (inl here) = ap test (sym here) ∙ fails
    by_first rest (inr fails) (inr later) = rest (opened false fails) x later

pub refused_none_from : {X E : Type 0} (error : X → E) (test : X → Bool) (xs : List X)
    → ((x : X) → Contains xs x → test x ≡ false) → refused_first error test xs ≡ None
refused_none_from error test [] none = refl
refused_none_from error test (x ∷ xs) none =
    ap (λ (b : Bool). cond b (Some (error x)) (refused_first error test xs)) (none x (contains_first x xs))
    ∙ refused_none_from error test xs (λ z c. none z (contains_later x xs z c))

-- two tests that agree on the list
pub refused_same : {X E : Type 0} (error : X → E) (test other : X → Bool) (xs : List X)
    → ((x : X) → Contains xs x → test x ≡ other x) → refused_first error test xs ≡ refused_first error other xs
refused_same error test other [] same = refl
refused_same {X} {E} error test other (x ∷ xs) same =
    ap (λ (b : Bool). cond b (Some (error x)) (refused_first error test xs)) (same x (contains_first x xs))
    ∙ ap (λ (o : Option E). cond (other x) (Some (error x)) o)
    (refused_same error test other xs (λ z c. same z (contains_later x xs z c)))

kinds_agree : (found wanted : Kind) → not (same_kind found wanted) ≡ false → found ≡ wanted
kinds_agree found wanted e = (Decides-kind found wanted).0 (not-false _ e)

pub of_kind : (found : Option Kind) (wanted : Kind) → is_of found wanted ≡ true → found ≡ Some wanted
of_kind None wanted e = absurd (false≢true e)
of_kind (Some found) wanted e = ap Some ((Decides-kind found wanted).0 e)

-- what is known of each pair that may be set
pub record Settable (entries : List Entry) (pair : Name × Value) : Type 0 where
  pub known : unknown_in entries pair.0.0 ≡ false
  pub writable : read_only_in entries pair.0.0 ≡ false
  pub kind : kind_of pair.1 ≡ kind_at entries pair.0.0
  pub free : bound_in entries pair.0.0 ≡ false

pub settable : (pairs : List (Name × Value)) (es : List Entry) → set_refusal pairs es ≡ None
    → (pair : Name × Value) → Contains pairs pair → Settable es pair
unfolding set_refusal
settable pairs es e pair c =
    let first = or_else_none (unknown_name es (pair_names pairs)) _ e in
    let second = or_else_none (refused_first ReadOnly (λ (name : Name). read_only_in es name.0) (pair_names pairs)) _ first.1 in
    let third = or_else_none (wrong_kind es pairs) _ second.1 in
    let there : Contains (pair_names pairs) pair.0 = contains_map (λ (p : Name × Value). p.0) pairs pair c in
    record {
      known = refused_none Unknown (λ (name : Name). unknown_in es name.0) (pair_names pairs) first.0 pair.0 there;
      writable = refused_none ReadOnly (λ (name : Name). read_only_in es name.0) (pair_names pairs) second.0 pair.0 there;
      kind = kinds_agree _ _
          (refused_none (λ (p : Name × Value). WrongKind p.0) (λ (p : Name × Value). not (same_kind (kind_of p.1) (kind_at es p.0.0)))
          pairs third.0 pair c);
      free = refused_none Bound (λ (name : Name). bound_in es name.0) (pair_names pairs) third.1 pair.0 there;
    }

-- and of each that may be published
pub publishable : (pairs : List (Name × Value)) (es : List Entry) → publish_refusal pairs es ≡ None
    → (pair : Name × Value) → Contains pairs pair → (unknown_in es pair.0.0 ≡ false) × (kind_of pair.1 ≡ kind_at es pair.0.0)
unfolding publish_refusal
publishable pairs es e pair c =
    let first = or_else_none (unknown_name es (pair_names pairs)) _ e in (
      refused_none Unknown (λ (name : Name). unknown_in es name.0) (pair_names pairs) first.0 pair.0
          (contains_map (λ (p : Name × Value). p.0) pairs pair c),
      kinds_agree _ _
          (refused_none (λ (p : Name × Value). WrongKind p.0) (λ (p : Name × Value). not (same_kind (kind_of p.1) (kind_at es p.0.0)))
          pairs first.1 pair c),
    )

-- what is known of a binding that may be made
pub record Bindable (entries : List Entry) (name : ℕ) (expr : Tree) (operands : List ℕ) : Type 0 where
  pub known : unknown_in entries name ≡ false
  pub operands_known : (o : ℕ) → Contains operands o → unknown_in entries o ≡ false
  pub writable : read_only_in entries name ≡ false
  pub kind : kind_in expr (map (kind_at entries) operands) ≡ Some (kind_at entries name)
  pub free : (o : ℕ) → Contains operands o → leads entries o name ≡ false
  pub few : operand_count (with_binding name expr operands entries) ≤ 1000000

some_is : (b : Bool) (error : GraphError) → cond b (Some error) None ≡ None → b ≡ false
some_is true error e = cc
some_is false error e = refl

none_is : (b : Bool) (error : GraphError) → cond b None (Some error) ≡ None → b ≡ true
none_is true error e = refl
none_is false error e = cc

pub bindable : (name : Name) (expr : Tree) (operands : List Name) (es : List Entry) → bind_refusal name expr operands es ≡ None
    → Bindable es name.0 expr (numbers operands)
unfolding bind_refusal fit_refusal link_refusal
bindable name expr operands es e =
    let whole = or_else_none (fit_refusal name expr operands es) _ e in
    let first = or_else_none (unknown_name es (name ∷ operands)) _ whole.0 in
    let second = or_else_none (cond (read_only_in es name.0) (Some (ReadOnly name)) None) _ first.1 in
    let fourth = or_else_none (refused_first Cycle (λ (operand : Name). leads es operand.0 name.0) operands) _ whole.1 in
    record {
      known = refused_none Unknown (λ (n : Name). unknown_in es n.0) (name ∷ operands) first.0 name (contains_first name operands);
      operands_known = λ o c. of_name (λ n. unknown_in es n)
          (λ n d. refused_none Unknown (λ (m : Name). unknown_in es m.0) (name ∷ operands) first.0 n (contains_later name operands n d)) o c;
      writable = some_is _ _ second.0;
      kind = of_kind _ _ (none_is _ _ second.1);
      free = λ o c. of_name (λ n. leads es n name.0) (refused_none Cycle (λ (m : Name). leads es m.0 name.0) operands fourth.0) o c;
      few = ltb-false _ _ (some_is _ _ fourth.1);
    }
  where
    of_name : (test : ℕ → Bool) → ((n : Name) → Contains operands n → test n.0 ≡ false) → (o : ℕ) → Contains (numbers operands) o → test o ≡ false
    of_name test each o c =
        let found = map_contains (λ (n : Name). n.0) operands o c in
        ap test (sym found.2) ∙ each found.0 found.1

-- with no flag set, a mark from one name upward gives the names that lead to it
blank : (n name : ℕ) → marked (replicate n false) name ≡ false
blank zero name = refl
blank (suc n) zero = refl
blank (suc n) (suc name) = blank n name

pub closed_blank : (es : List Entry) (n : ℕ) (names : List ℕ) → IsClosedBut es (replicate n false) names
closed_blank es n names user name c on = absurd (both_ways _ (blank n name) on)

pub marked-blank : (es : List Entry) (n name other : ℕ) → other < n
    → marked (after_marking es (name ∷ []) (replicate n false)) other ≡ leads es other name
marked-blank es n name other h =
    marked-marking es (name ∷ []) (replicate n false) other (rw (length-replicate n false) h)
    ∙ ap (λ (b : Bool). b || leads_to_any es (name ∷ []) other) (blank n other)
    ∙ any-one es name other
