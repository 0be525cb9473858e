-- The map that contracts see, and the entries that are kept.
use Rattle.std.proofs.Common.{◌≡◌, ℕ, ◌==◌, Bool, true, false, cond, ◌&&◌, List, [], ◌∷◌, ◌++◌, unwrap_or, Option, Some, None, Result, Ok, Err, refl, sym, ◌∙◌, ap, subst}
use Rattle.std.specs.declared.cmp.Ordering.{Ordering}
use Rattle.std.specs.declared.cmp.Ordering.TheVariants.{Less, Equal, Greater}
use Rattle.std.specs.Ordering.{nat_cmp, eq_by_cmp, ordering_then}
use Rattle.std.specs.Cmp.{IsTotalOrder, on_total, then_total, nat_cmp_total, unsigned_ties, both_tied, eq_by_cmp_equiv}
use Rattle.std.specs.FinMap.{IsAntisymmetric, nat_cmp-IsAntisymmetric, find, from_entries, get, insert, remove, get-from_entries, get-insert, get-remove, same_map}
use Rattle.std.specs.Map.{lookup}
use Rattle.fx_base.specs.Answers.{IsAnswer}
use Rattle.fx_base.specs.declared.keys.NodeKey.{NodeKey}
use Rattle.std.specs.List.{flat_map}
use Rattle.fx_events.specs.declared.kinds.EventKind.{EventKind}
use Rattle.fx_events.specs.declared.kinds.Phase.{Phase}
use Rattle.fx_events.specs.declared.kinds.Phase.TheVariants.{Convenience}
use Rattle.fx_events.specs.declared.EventError.{EventError}
use Rattle.fx_events.specs.declared.EventError.TheVariants.{Memory}
use Rattle.fx_events.specs.declared.registrations.Registration.{Registration}
use Rattle.fx_events.specs.Events.{is_same_phase, parts_of, types_of}
use Rattle.fx_events.specs.Handlers.{HandlerMap, registrations_of, calls_as, calls_at, put_at, add_refusal, with_registration}
use Rattle.fx_events.specs.Keyed.{key_cmp}

-- both keys are of one node, as the kept keys tell it
abbrev pub same_key : NodeKey → NodeKey → Bool
same_key one other = (one.slot == other.slot) && (one.birth == other.birth)

pub key_cmp_total : IsTotalOrder key_cmp
key_cmp_total =
    then_total (on_total (λ (key : NodeKey). key.slot) nat_cmp_total) (on_total (λ (key : NodeKey). key.birth) nat_cmp_total)

both_equal : (r s : Ordering) → ordering_then r s ≡ Equal → (r ≡ Equal) × (s ≡ Equal)
both_equal Less s e = (e, absurd (cc))
both_equal Equal s e = (refl, e)
both_equal Greater s e = (e, absurd (cc))

pub key_cmp-IsAntisymmetric : IsAntisymmetric key_cmp
key_cmp-IsAntisymmetric one other e =
    let parts = both_equal (nat_cmp one.slot other.slot) (nat_cmp one.birth other.birth) e in
    let slots = nat_cmp-IsAntisymmetric one.slot other.slot parts.0 in
    let births = nat_cmp-IsAntisymmetric one.birth other.birth parts.1 in
    λ i. record { slot = slots i; birth = births i }

pub key_tied : (one other : NodeKey) → eq_by_cmp key_cmp one other ≡ same_key one other
key_tied one other =
    sym
    (both_tied (one.slot == other.slot) (one.birth == other.birth) (nat_cmp one.slot other.slot) (nat_cmp one.birth other.birth)
    (unsigned_ties one.slot other.slot) (unsigned_ties one.birth other.birth))

turned : (one other : NodeKey) → same_key one other ≡ eq_by_cmp key_cmp other one
turned one other = sym (key_tied one other) ∙ (eq_by_cmp_equiv key_cmp_total).symm one other

abbrev nothing : List (List ℕ)
nothing = []

module _ {X : Type 0} where
  pub found : (q : NodeKey) (entries : List (NodeKey × X)) → find key_cmp q entries ≡ lookup (same_key q) entries
  found q [] = refl
  found q (e ∷ es) =
      ap (λ (b : Bool). cond b (Some e.1) (find key_cmp q es)) (key_tied q e.0)
      ∙ ap (cond (same_key q e.0) (Some e.1)) (found q es)

  pub got : (entries : List (NodeKey × X)) (q : NodeKey) → get (from_entries {R = key_cmp} entries) q ≡ lookup (same_key q) entries
  got entries q = get-from_entries key_cmp_total entries q ∙ found q entries

  -- the entries agree with the old ones but at this key
  pub inserted : (old new : List (NodeKey × X)) (key : NodeKey) (x : X)
      → ((q : NodeKey) → lookup (same_key q) new ≡ cond (same_key key q) (Some x) (lookup (same_key q) old))
      → from_entries {R = key_cmp} new ≡ insert (from_entries {R = key_cmp} old) key x
  inserted old new key x agree =
      same_map key_cmp_total key_cmp-IsAntisymmetric _ _
      (λ q.
      got new q ∙ agree q
      ∙ ap (λ (b : Bool). cond b (Some x) (lookup (same_key q) old)) (turned key q)
      ∙ ap (cond (eq_by_cmp key_cmp q key) (Some x)) (sym (got old q))
      ∙ sym (get-insert key_cmp_total (from_entries {R = key_cmp} old) key x q))

  pub removed : (old new : List (NodeKey × X)) (key : NodeKey)
      → ((q : NodeKey) → lookup (same_key q) new ≡ cond (same_key key q) None (lookup (same_key q) old))
      → from_entries {R = key_cmp} new ≡ remove (from_entries {R = key_cmp} old) key
  removed old new key agree =
      same_map key_cmp_total key_cmp-IsAntisymmetric _ _
      (λ q.
      got new q ∙ agree q
      ∙ ap (λ (b : Bool). cond b None (lookup (same_key q) old)) (turned key q)
      ∙ ap (cond (eq_by_cmp key_cmp q key) None) (sym (got old q))
      ∙ sym (get-remove key_cmp_total (from_entries {R = key_cmp} old) key q))

-- the registrations of a node are what the entries have under its key
pub listed : (entries : List (NodeKey × List Registration)) (handlers : HandlerMap) → from_entries {R = key_cmp} entries ≡ handlers
    → (kept key : NodeKey) → kept ≡ key → (o : Option (List Registration)) → o ≡ lookup (same_key kept) entries
    → registrations_of handlers key ≡ unwrap_or o []
listed entries handlers is kept key same o e =
    ap (λ (l : Option (List Registration)). unwrap_or l [])
    (sym (ap (λ (h : HandlerMap). get h key) is)
    ∙ got entries key
    ∙ sym (e ∙ ap (λ (k : NodeKey). lookup (same_key k) entries) same))

no_actions : {A : Type 0} (xs : List A) → flat_map (λ (x : A). nothing) xs ≡ nothing
no_actions [] = refl
no_actions (x ∷ xs) = no_actions xs

no_types : (phase : Phase) (types : List EventKind) → flat_map (calls_as phase []) types ≡ []
no_types phase [] = refl
no_types phase (t ∷ types) = ap (λ (l : List (List ℕ)). l ++ flat_map (calls_as phase []) types) (no_actions (parts_of phase)) ∙ no_types phase types

-- no registrations, no calls
pub no_calls : (on : EventKind) (phase : Phase) → calls_at [] on phase ≡ []
no_calls on phase = no_types phase (types_of on)

-- the first registration of a node stands alone
pub first_alone : (new : Registration) → with_registration new [] ≡ new ∷ []
first_alone new = ap (λ (o : Option ℕ). put_at o new []) (none_there (is_same_phase new.phase Convenience))
  where
    none_there : (b : Bool) → ◌≡◌ {A = Option ℕ} (cond b None None) None
    none_there true = refl
    none_there false = refl

-- a node without registrations has room
never_refused : (new : Registration) (registrations : List Registration) → registrations ≡ [] → add_refusal new registrations ≡ None
never_refused new registrations none = ap (add_refusal new) none

pub admitted : (new : Registration) (registrations : List Registration) → registrations ≡ []
    → IsAnswer {T = Unit {0}} Memory (add_refusal new registrations) (Ok tt)
admitted new registrations none =
    subst (λ (o : Option EventError). IsAnswer {T = Unit {0}} Memory o (Ok tt)) (sym (never_refused new registrations none)) tt

pub wanting : (new : Registration) (registrations : List Registration) → registrations ≡ []
    → (result : Result (Unit {0}) EventError) → result ≡ Err Memory → IsAnswer Memory (add_refusal new registrations) result
wanting new registrations none result is =
    subst (λ (o : Option EventError). IsAnswer Memory o result) (sym (never_refused new registrations none))
    (subst (λ (r : Result (Unit {0}) EventError). IsAnswer Memory None r) (sym is) refl)
