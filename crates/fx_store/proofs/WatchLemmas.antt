-- What is watched: the change listeners among the living ones, their properties, and the ends of the pairs.
use Rattle.std.proofs.Common.{◌≡◌, ℕ, ◌+◌, ◌<◌, ◌≤◌, Bool, false, ◌&&◌, List, [], ◌∷◌, ◌++◌, length, map, filter, get_or, take, All, arith, sym, ◌∙◌, ap, subst}
use Rattle.std.proofs.lemmas.List.{append_assoc, get_or-map, get_or_append_left, length-append, length-map, take_more, map-append}
use Rattle.std.proofs.lemmas.List.Concat.{flat_map-append}
use Rattle.std.proofs.lemmas.List.Elements.{Contains-append_left, filter_agree}
use Rattle.std.proofs.lemmas.Simd.{map-map}
use Rattle.fx_base.specs.declared.keys.Name.{Name}
use Rattle.fx_base.specs.declared.values.Value.{Value}
use Rattle.fx_handles.specs.declared.Owner.{Owner}
use Rattle.fx_listen.specs.declared.entries.Listener.{Listener}
use Rattle.fx_listen.specs.declared.entries.ListenKind.TheVariants.{Change}
use Rattle.fx_listen.specs.Listening.{is_live, living_in, same_kind}
use Rattle.fx_listen.proofs.Cuts.{and-comm, filter-filter}
use Rattle.fx_graph_model.specs.declared.entries.Entry.{Entry}
use Rattle.fx_graph_model.specs.Changes.{AreKnown}
use Rattle.fx_graph_model.specs.Eager.{eager}
use Rattle.fx_base.specs.Names.{numbers}
use Rattle.fx_graph_model.specs.Uses.{unknown_in}
use Rattle.fx_graph_model.specs.Unread.{evaluations_of}
use Rattle.fx_graph_model.proofs.ManyReads.{evaluations_more}
use Rattle.fx_store_pairs.specs.Pairs.{pairs_of}
use Rattle.fx_store.specs.Watching.{ends_of, heard_of, names_of, properties_of, told_as, values_of, watch_list}

-- it is told of changed values
abbrev hears : Listener → Bool
hears listener = same_kind listener.kind Change

pub heard_living : (living : List Owner) (entries : List Listener)
    → map told_as (filter (λ (listener : Listener). same_kind listener.kind Change && is_live living listener) entries)
    ≡ heard_of (living_in living entries)
heard_living living entries =
    ap (map told_as)
    (filter_agree (λ (l : Listener). hears l && is_live living l) (λ (l : Listener). is_live living l && hears l)
    (λ (l : Listener). and-comm (hears l) (is_live living l)) entries
    ∙ sym (filter-filter hears (is_live living) entries))

pub numbers_heard : (heard : List (Name × ℕ)) → numbers (properties_of heard) ≡ names_of heard
numbers_heard heard = map-map (λ (name : Name). name.0) (λ (to : Name × ℕ). to.0) heard

-- both ends
abbrev ends : Name × Name → List ℕ
ends pair = pair.0.0 ∷ pair.1.0 ∷ []

-- one pair more
ends_more : (pairs : List (Name × Name)) (i : ℕ) (d : Name × Name) → i < length pairs
    → ends_of (pairs_of (take (i + 1) pairs)) ≡ ends_of (pairs_of (take i pairs)) ++ ends (get_or pairs i d)
ends_more pairs i d within =
    ap (λ (ps : List (Name × Name)). ends_of (pairs_of ps)) (take_more pairs i d within)
    ∙ ap ends_of (map-append (λ (pair : Name × Name). (pair.0.0, pair.1.0)) (take i pairs) (get_or pairs i d ∷ []))
    ∙ flat_map-append (λ (pair : ℕ × ℕ). pair.0 ∷ pair.1 ∷ []) (pairs_of (take i pairs)) (pairs_of (get_or pairs i d ∷ []))

-- one turn of a loop over the pairs
pub ends_turn : (start now before : List ℕ) (pairs : List (Name × Name)) (i : ℕ) (d : Name × Name) → i < length pairs
    → before ≡ start ++ ends_of (pairs_of (take i pairs)) → now ≡ before ++ ends (get_or pairs i d)
    → now ≡ start ++ ends_of (pairs_of (take (i + 1) pairs))
ends_turn start now before pairs i d within done here =
    here ∙ ap (λ (ns : List ℕ). ns ++ ends (get_or pairs i d)) done
    ∙ append_assoc start (ends_of (pairs_of (take i pairs))) (ends (get_or pairs i d))
    ∙ ap (λ (ns : List ℕ). start ++ ns) (sym (ends_more pairs i d within))

-- names whose numbers are known
pub known_names : (entries : List Entry) (names : List Name) (watched : List ℕ) → numbers names ≡ watched
    → All (λ (name : ℕ). unknown_in entries name ≡ false) watched → AreKnown entries names
known_names entries names watched same known k d h =
    subst (λ (n : ℕ). unknown_in entries n ≡ false) (get_or-map (λ (name : Name). name.0) names k d d.0 h)
    (subst (λ (ns : List ℕ). All (λ (name : ℕ). unknown_in entries name ≡ false) ns) (sym same) known k d.0
    (omega (arith, length-map names (λ (name : Name). name.0))))

-- the first ones
all_first : {X : Type 0} (P : X → Type 0) (xs ys : List X) → All P (xs ++ ys) → All P xs
all_first P xs ys all k d h =
    subst P (get_or_append_left xs ys d k h) (all k d (omega (arith, length-append xs ys)))

-- reads of the first ones cost no more than those of all
pub evaluations_first : (entries : List Entry) (xs ys : List ℕ) (flags : List Bool)
    → evaluations_of entries xs flags ≤ evaluations_of entries (xs ++ ys) flags
evaluations_first entries xs ys flags =
    evaluations_more entries xs (xs ++ ys) flags (λ n c. Contains-append_left xs ys n c)

-- the watched names, of listeners that were lent as a slice
pub watch_is : (pairs : List (ℕ × ℕ)) (listeners : List Listener) (heard lent : List (Name × ℕ)) (names : List Name)
    → heard ≡ heard_of listeners → lent ≡ heard → numbers names ≡ names_of lent ++ ends_of pairs → numbers names ≡ watch_list pairs listeners
watch_is pairs listeners heard lent names listening loan same =
    same ∙ ap (λ (ls : List (Name × ℕ)). names_of ls ++ ends_of pairs) (loan ∙ listening)

-- the properties of listeners that were lent as a slice
pub first_is : (heard lent : List (Name × ℕ)) (names given : List Name) → lent ≡ heard → names ≡ properties_of lent → given ≡ names
    → numbers given ≡ names_of heard
first_is heard lent names given loan same gift =
    ap numbers (gift ∙ same) ∙ numbers_heard lent ∙ ap names_of loan

-- those of all listeners are known
pub first_known : (entries : List Entry) (pairs : List (ℕ × ℕ)) (listeners : List Listener) (heard : List (Name × ℕ))
    → heard ≡ heard_of listeners → All (λ (name : ℕ). unknown_in entries name ≡ false) (watch_list pairs listeners)
    → All (λ (name : ℕ). unknown_in entries name ≡ false) (names_of heard)
first_known entries pairs listeners heard listening known =
    subst (λ (ls : List (Name × ℕ)). All (λ (name : ℕ). unknown_in entries name ≡ false) (names_of ls)) (sym listening)
    (all_first (λ (name : ℕ). unknown_in entries name ≡ false) (names_of (heard_of listeners)) (ends_of pairs) known)

pub first_cost : (entries : List Entry) (pairs : List (ℕ × ℕ)) (listeners : List Listener) (heard : List (Name × ℕ))
    (flags : List Bool) (began spent : ℕ) → heard ≡ heard_of listeners
    → spent ≤ began + evaluations_of entries (names_of heard) flags
    → spent ≤ began + evaluations_of entries (watch_list pairs listeners) flags
first_cost entries pairs listeners heard flags began spent listening cost =
    let same : evaluations_of entries (names_of heard) flags ≡ evaluations_of entries (names_of (heard_of listeners)) flags =
    ap (λ (ls : List (Name × ℕ)). evaluations_of entries (names_of ls) flags) listening in
    let most : evaluations_of entries (names_of (heard_of listeners)) flags ≤ evaluations_of entries (watch_list pairs listeners) flags =
    evaluations_first entries (names_of (heard_of listeners)) (ends_of pairs) flags in
    omega arith

pub first_values : (entries : List Entry) (heard : List (Name × ℕ)) (given : List Name) (values : List Value)
    → numbers given ≡ names_of heard → values ≡ map (eager entries) (numbers given) → values ≡ values_of entries heard
first_values entries heard given values first same =
    same ∙ ap (map (eager entries)) first ∙ map-map (eager entries) (λ (to : Name × ℕ). to.0.0) heard
