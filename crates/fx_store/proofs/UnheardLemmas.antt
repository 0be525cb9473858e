-- Listeners of names that are forgotten go one name after another; and a listener that is added has an owner that was born.
use Rattle.std.proofs.Common.{◌≡◌, ℕ, ◌+◌, ◌==◌, ◌<◌, ◌≤◌, ◌||◌, ◌&&◌, nat_le, Bool, true, false, not, cond, List, [], ◌∷◌, filter, length, take, get_or, Option, Some, None, IfSome, refl, sym, ap, subst, ◌∙◌}
use Rattle.std.specs.List.{list_any}
use Rattle.std.specs.List.Sorted.{IsPermutation}
use Rattle.std.proofs.lemmas.Bool.{eq-eqb, eqb-true}
use Rattle.std.proofs.lemmas.List.{map_more}
use Rattle.std.proofs.lemmas.List.Elements.{All-contains, filter_agree}
use Rattle.std.proofs.lemmas.List.Folds.{list_any-append}
use Rattle.std.proofs.lemmas.List.Sorted.{IsPermutation-map, list_any-IsPermutation}
use Rattle.fx_base.specs.declared.keys.Name.{Name}
use Rattle.fx_store_model.specs.Making.{with_listeners}
use Rattle.fx_base.specs.Answers.{or_else}
use Rattle.fx_store_model.specs.Refusals.{listen_refusal, of_graph_refusal, refused_if}
use Rattle.fx_store_model.specs.declared.errors.StoreError.TheVariants as error
use Rattle.fx_handles.specs.declared.Owner.{Owner}
use Rattle.fx_handles.specs.Living.{IsSound, Register, is_same}
use Rattle.fx_listen.specs.declared.entries.Listener.{Listener}
use Rattle.fx_listen.specs.declared.entries.ListenKind.{ListenKind}
use Rattle.fx_listen.specs.Listening.{Table, add_refusal, after_add, after_forget, after_forget_all, after_remove, has_life, is_elsewhere, is_equal, is_live, living_in, placed, without_first}
use Rattle.fx_listen.proofs.Cuts.{filter-filter}
use Rattle.fx_listen.proofs.Finding.{is_same-true}
use Rattle.fx_listen.proofs.LivingLemmas.{living_in-removed}
use Rattle.fx_store_pairs.specs.Pairs.{is_among, is_touched}
use Rattle.fx_graph_model.specs.declared.entries.Entry.{Entry}
use Rattle.fx_graph_model.specs.declared.errors.GraphError.TheVariants as graph
use Rattle.fx_graph_model.specs.Changes.{State}
use Rattle.fx_base.specs.Names.{numbers}
use Rattle.fx_graph_model.specs.Uses.{unknown_in}
use Rattle.fx_graph_model.proofs.Flags.{same_test}
use Rattle.fx_graph_model.proofs.Members.{any_from}
use Rattle.fx_store.specs.Kept.{stored_of}
use Rattle.fx_store.proofs.KeepLemmas.{left_listener, living_in-added}

-- one name after another

same_eqb : (a b : ℕ) → (a == b) ≡ (b == a)
same_eqb a b = same_test _ _ (λ e. eq-eqb b a (sym (eqb-true a b e))) (λ e. eq-eqb a b (sym (eqb-true b a e)))

not_or : (a b : Bool) → not (a || (b || false)) ≡ (not a && not b)
not_or true b = refl
not_or false true = refl
not_or false false = refl

left_turn : (names : List Name) (i : ℕ) (d : Name) → i < length names → (l : Listener)
    → (left_listener (numbers (take i names)) l && is_elsewhere (get_or names i d).0 l) ≡ left_listener (numbers (take (i + 1) names)) l
left_turn names i d within l =
    let among : ℕ → Bool = λ other. other == l.name.0 in
    let done : Bool = is_among (numbers (take i names)) l.name.0 in
    ap (λ (b : Bool). not done && not b) (same_eqb l.name.0 (get_or names i d).0)
    ∙ sym
    (ap (λ (ns : List ℕ). not (list_any among ns)) (map_more (λ (name : Name). name.0) names i d within)
    ∙ ap not (list_any-append among (numbers (take i names)) ((get_or names i d).0 ∷ []))
    ∙ not_or done ((get_or names i d).0 == l.name.0))

unheard_none : (listeners : List Listener) → filter (left_listener []) listeners ≡ listeners
unheard_none [] = refl
unheard_none (l ∷ listeners) = ap (λ (ls : List Listener). l ∷ ls) (unheard_none listeners)

-- the listeners of these names are gone
abbrev pub without_names : List Name → Table → Table
without_names names table = record { entries = filter (left_listener (numbers names)) table.entries; given = table.given }

pub unheard_start : (table : Table) → table ≡ without_names [] table
unheard_start table = ap (λ (ls : List Listener). table_of ls) (sym (unheard_none table.entries))
  where
    table_of : List Listener → Table
    table_of listeners = record { entries = listeners; given = table.given }

pub unheard_turn : (first before now : Table) (names : List Name) (i : ℕ) (d : Name) → i < length names
    → before ≡ without_names (take i names) first → now ≡ after_forget (get_or names i d).0 before
    → now ≡ without_names (take (i + 1) names) first
unheard_turn first before now names i d within done here =
    here
    ∙ ap (after_forget (get_or names i d).0) done
    ∙ ap (λ (ls : List Listener). table_of ls)
    (filter-filter (is_elsewhere (get_or names i d).0) (left_listener (numbers (take i names))) first.entries
    ∙ filter_agree (λ (l : Listener). left_listener (numbers (take i names)) l && is_elsewhere (get_or names i d).0 l)
    (left_listener (numbers (take (i + 1) names))) (left_turn names i d within) first.entries)
  where
    table_of : List Listener → Table
    table_of listeners = record { entries = listeners; given = first.given }

-- names in another order

among_same : (xs ys : List Name) → IsPermutation xs ys → (name : ℕ) → is_among (numbers ys) name ≡ is_among (numbers xs) name
among_same xs ys moved name =
    sym
    (list_any-IsPermutation (λ (other : ℕ). other == name) (numbers xs) (numbers ys)
    (IsPermutation-map (λ (n : Name). n.0) xs ys moved))

pub unpaired_same : (xs ys : List Name) → IsPermutation xs ys → (pairs : List (ℕ × ℕ))
    → filter (λ (pair : ℕ × ℕ). not (is_touched (numbers ys) pair)) pairs
    ≡ filter (λ (pair : ℕ × ℕ). not (is_touched (numbers xs) pair)) pairs
unpaired_same xs ys moved pairs =
    filter_agree (λ (pair : ℕ × ℕ). not (is_touched (numbers ys) pair)) (λ (pair : ℕ × ℕ). not (is_touched (numbers xs) pair))
    (λ pair. rw (among_same xs ys moved pair.0, among_same xs ys moved pair.1) refl) pairs

pub unheard_same : (xs ys : List Name) → IsPermutation xs ys → (table : Table)
    → after_forget_all (numbers ys) table ≡ after_forget_all (numbers xs) table
unheard_same xs ys moved table =
    ap (λ (ls : List Listener). table_of ls)
    (filter_agree (left_listener (numbers ys)) (left_listener (numbers xs))
    (λ l. ap not (among_same xs ys moved l.name.0)) table.entries)
  where
    table_of : List Listener → Table
    table_of listeners = record { entries = listeners; given = table.given }

-- an addition

-- whoever is alive was born
pub born_living : (register : Register) (owner : Option Owner) → IsSound register → has_life register.living owner ≡ true
    → IfSome owner (λ (o : Owner). o.birth ≤ register.born)
born_living register None sound lives = tt
born_living register (Some owner) sound lives =
    let found = any_from (is_same owner) register.living lives in
    subst (λ (o : Owner). o.birth ≤ register.born) (sym (is_same-true owner found.0 found.2))
    (All-contains (λ (o : Owner). o.birth ≤ register.born) register.living found.0 sound.given found.1)

pub allowed_by : (name : Name) (a b f : Bool)
    → or_else (of_graph_refusal (cond a (Some (graph.Unknown name)) None))
    (or_else (cond b None (Some error.StaleOwner)) (refused_if f error.Full)) ≡ None
    → (a ≡ false) × (b ≡ true) × (f ≡ false)
allowed_by name true b f e = absurd (cc)
allowed_by name false false f e = absurd (cc)
allowed_by name false true true e = absurd (cc)
allowed_by name false true false e = (refl, refl, refl)

pub listen_allowed : (name : Name) (owner : Option Owner) (es : List Entry) (living : List Owner) (table : Table)
    → listen_refusal name owner es living (living_in living table.entries) table.given ≡ None
    → (unknown_in es name.0 ≡ false) × (has_life living owner ≡ true) × (add_refusal living owner table ≡ None)
unfolding listen_refusal
listen_allowed name owner es living table e =
    let full : Bool = nat_le 10000 (length (living_in living table.entries)) || nat_le 4294967295 table.given in
    let parts = allowed_by name (unknown_in es name.0) (has_life living owner) full e in
    (parts.0, parts.1, rw (parts.1, parts.2) refl)

pub seen_added : (state : State) (pairs : List (ℕ × ℕ)) (table now : Table) (owners : Register) (listener : Listener)
    → now ≡ after_add owners.living listener table → is_live owners.living listener ≡ true
    → stored_of state pairs now owners
    ≡ with_listeners (placed listener (living_in owners.living table.entries)) listener.number (stored_of state pairs table owners)
seen_added state pairs table now owners listener added lives =
    ap (λ (t : Table). stored_of state pairs t owners) added
    ∙ ap (λ (ls : List Listener). with_listeners ls listener.number (stored_of state pairs table owners))
    (living_in-added owners.living listener table.entries lives)

pub seen_removed : (state : State) (pairs : List (ℕ × ℕ)) (table now : Table) (owners : Register) (name : ℕ) (kind : ListenKind)
    (owner : Option Owner) (tag : ℕ) → now ≡ after_remove (is_equal name kind owner tag) table
    → stored_of state pairs now owners
    ≡ with_listeners (without_first (is_equal name kind owner tag) (living_in owners.living table.entries)) table.given
    (stored_of state pairs table owners)
seen_removed state pairs table now owners name kind owner tag removed =
    ap (λ (t : Table). stored_of state pairs t owners) removed
    ∙ ap (λ (ls : List Listener). with_listeners ls table.given (stored_of state pairs table owners))
    (living_in-removed owners.living name kind owner tag table.entries)
