-- What is told, turn by turn: the listeners on names that became unread, and what has another value.
use Rattle.std.proofs.Common.{◌≡◌, ℕ, ◌+◌, ◌<◌, ◌⊎◌, true, false, cond, ◌&&◌, List, [], ◌∷◌, ◌++◌, length, map, filter, get_or, take, All, Contains, sym, subst, ◌∙◌, ap, refl, inl, inr}
use Rattle.std.specs.List.{flat_map}
use Rattle.std.proofs.lemmas.Bool.{cases_Bool}
use Rattle.std.proofs.lemmas.List.{append-nil, get_or-map, get_or_default, map_more, take_more}
use Rattle.std.proofs.lemmas.List.Concat.{flat_map-append}
use Rattle.std.proofs.lemmas.List.Elements.{All-contains, Contains-append_left, filter_agree}
use Rattle.std.proofs.lemmas.Simd.{map-map}
use Rattle.fx_base.specs.declared.keys.Name.{Name}
use Rattle.fx_base.specs.declared.values.Value.{Value}
use Rattle.fx_handles.specs.declared.Owner.{Owner}
use Rattle.fx_listen.specs.declared.entries.Listener.{Listener}
use Rattle.fx_listen.specs.declared.entries.ListenKind.{ListenKind}
use Rattle.fx_listen.specs.Listening.{is_live, living_in, numbers_of, tells}
use Rattle.fx_listen.proofs.Cuts.{and-comm, filter-filter}
use Rattle.fx_graph_model.specs.declared.entries.Entry.{Entry}
use Rattle.fx_graph_model.specs.Eager.{eager}
use Rattle.fx_graph_model.specs.Equality.{same_value}
use Rattle.fx_graph_model.specs.Changes.{AreKnown, State, after_read_all}
use Rattle.fx_graph_model.specs.Unread.{marked}
use Rattle.fx_graph_model.specs.Uses.{unknown_in}
use Rattle.fx_graph_model.proofs.Members.{contains_map, map_contains}
use Rattle.fx_base.specs.Names.{name_of, numbers}
use Rattle.fx_store.proofs.Twins.{all_from}
use Rattle.fx_store.proofs.Watched.{reads_off}
use Rattle.fx_store.specs.Watching.{heard_on, names_of, notice_to, values_of}

-- the listeners on one name
abbrev pub told_on : ListenKind → List Listener → ℕ → List (Name × ℕ)
told_on kind listeners name = map (λ (listener : Listener). (name_of name, listener.number)) (filter (tells name kind) listeners)

heard_more : (kind : ListenKind) (listeners : List Listener) (names : List Name) (i : ℕ) (d : Name) → i < length names
    → heard_on kind (numbers (take (i + 1) names)) listeners
    ≡ heard_on kind (numbers (take i names)) listeners ++ told_on kind listeners (get_or names i d).0
heard_more kind listeners names i d within =
    ap (λ (ns : List ℕ). flat_map (told_on kind listeners) ns) (map_more (λ (name : Name). name.0) names i d within)
    ∙ flat_map-append (told_on kind listeners) (numbers (take i names)) ((get_or names i d).0 ∷ [])
    ∙ ap (λ (ns : List (Name × ℕ)). heard_on kind (numbers (take i names)) listeners ++ ns)
    (append-nil (told_on kind listeners (get_or names i d).0))

-- the numbers of those that live and tell of the name
living_on : (kind : ListenKind) (living : List Owner) (entries : List Listener) (name : Name)
    → map (λ (number : ℕ). (name, number)) (numbers_of (filter (λ (l : Listener). tells name.0 kind l && is_live living l) entries))
    ≡ told_on kind (living_in living entries) name.0
living_on kind living entries name =
    map-map (λ (number : ℕ). (name, number)) (λ (l : Listener). l.number)
    (filter (λ (l : Listener). tells name.0 kind l && is_live living l) entries)
    ∙ ap (map (λ (l : Listener). (name, l.number)))
    (filter_agree (λ (l : Listener). tells name.0 kind l && is_live living l) (λ (l : Listener). is_live living l && tells name.0 kind l)
    (λ (l : Listener). and-comm (tells name.0 kind l) (is_live living l)) entries
    ∙ sym (filter-filter (tells name.0 kind) (is_live living) entries))

-- one turn of a loop over the names
pub heard_turn : (kind : ListenKind) (living : List Owner) (entries : List Listener) (names : List Name) (i : ℕ) (d : Name)
    (before now : List (Name × ℕ)) (found lent : List ℕ) → i < length names
    → before ≡ heard_on kind (numbers (take i names)) (living_in living entries)
    → found ≡ numbers_of (filter (λ (l : Listener). tells (get_or names i d).0 kind l && is_live living l) entries) → lent ≡ found
    → now ≡ before ++ map (λ (number : ℕ). (get_or names i d, number)) lent
    → now ≡ heard_on kind (numbers (take (i + 1) names)) (living_in living entries)
heard_turn kind living entries names i d before now found lent within done hears loan here =
    here
    ∙ ap (λ (ns : List ℕ). before ++ map (λ (number : ℕ). (get_or names i d, number)) ns) (loan ∙ hears)
    ∙ ap (λ (ns : List (Name × ℕ)). before ++ ns) (living_on kind living entries (get_or names i d))
    ∙ ap (λ (ns : List (Name × ℕ)). ns ++ told_on kind (living_in living entries) (get_or names i d).0) done
    ∙ sym (heard_more kind (living_in living entries) names i d within)

-- what the first so many are told
abbrev pub told : List Entry → List Entry → List (Name × ℕ) → ℕ → List (Name × ℕ × Value × Value)
told before now heard count = flat_map (notice_to before now) (take count heard)

-- one more
told_more : (before now : List Entry) (heard : List (Name × ℕ)) (i : ℕ) (d : Name × ℕ) → i < length heard
    → told before now heard (i + 1) ≡ told before now heard i ++ notice_to before now (get_or heard i d)
told_more before now heard i d within =
    ap (flat_map (notice_to before now)) (take_more heard i d within)
    ∙ flat_map-append (notice_to before now) (take i heard) (get_or heard i d ∷ [])
    ∙ ap (λ (ns : List (Name × ℕ × Value × Value)). told before now heard i ++ ns) (append-nil (notice_to before now (get_or heard i d)))

value_heard : (es : List Entry) (heard : List (Name × ℕ)) (i : ℕ) (d : Name × ℕ) (other : Value) → i < length heard
    → get_or (values_of es heard) i other ≡ eager es (get_or heard i d).0.0
value_heard es heard i d other within = get_or-map (λ (to : Name × ℕ). eager es to.0.0) heard i d other within

-- one turn of a loop over the listeners, with both values of each one's property in lists of their own
told_turn : (before now : List Entry) (heard : List (Name × ℕ)) (i : ℕ) (to : Name × ℕ) (first second : Value) → i < length heard
    → to ≡ get_or heard i to → first ≡ get_or (values_of before heard) i first
    → second ≡ get_or (values_of now heard) i second
    → told before now heard (i + 1)
    ≡ cond (same_value first second) (told before now heard i)
    (told before now heard i ++ (to.0, to.1, first, second) ∷ [])
told_turn before now heard i to first second within here was is =
    told_more before now heard i to within
    ∙ ap (λ (l : Name × ℕ). told before now heard i ++ notice_to before now l) (sym here)
    ∙ ap (λ (v : Value). told before now heard i ++ notice v (eager now to.0.0)) (sym old)
    ∙ ap (λ (v : Value). told before now heard i ++ notice first v) (sym new)
    ∙ by_case (cases_Bool (same_value first second))
  where
    notice : Value → Value → List (Name × ℕ × Value × Value)
    notice one other = cond (same_value one other) [] ((to.0, to.1, one, other) ∷ [])

    old : first ≡ eager before to.0.0
    old =
        was ∙ value_heard before heard i to first within
        ∙ ap (λ (l : Name × ℕ). eager before l.0.0) (sym here)

    new : second ≡ eager now to.0.0
    new =
        is ∙ value_heard now heard i to second within
        ∙ ap (λ (l : Name × ℕ). eager now l.0.0) (sym here)

    by_case : (same_value first second ≡ true) ⊎ (same_value first second ≡ false)
        → told before now heard i ++ notice first second
        ≡ cond (same_value first second) (told before now heard i)
        (told before now heard i ++ (to.0, to.1, first, second) ∷ [])
    by_case (inl same) = rw same (append-nil (told before now heard i))
    by_case (inr other) = rw other refl

-- what the first so many are told, if these are the values of their properties before
abbrev pub AreTold : List Entry → List (Name × ℕ) → List Value → ℕ → List (Name × ℕ × Value × Value) → Type 0
AreTold now heard before count notices =
    (was : List Entry) → before ≡ values_of was heard → notices ≡ told was now heard count

-- one turn of a loop over the listeners
pub changed_turn : (now : List Entry) (heard : List (Name × ℕ)) (before : List Value) (i : ℕ) (d : Name × ℕ) (first second : Value)
    (notices more : List (Name × ℕ × Value × Value)) → i < length heard → first ≡ get_or before i first
    → second ≡ eager now (get_or heard i d).0.0 → AreTold now heard before i notices
    → more
    ≡ cond (same_value first second) notices
    (notices ++ ((get_or heard i d).0, (get_or heard i d).1, first, second) ∷ [])
    → AreTold now heard before (i + 1) more
changed_turn now heard before i d first second notices more within was_at is done push was old =
    let to = get_or heard i d in
    push
    ∙ ap (λ (ns : List (Name × ℕ × Value × Value)). cond (same_value first second) ns (ns ++ (to.0, to.1, first, second) ∷ []))
    (done was old)
    ∙ sym (told_turn was now heard i to first second within (get_or_default heard i d to within)
    (was_at ∙ ap (λ (vs : List Value). get_or vs i first) old)
    (is ∙ sym (value_heard now heard i d second within)))

-- what is read is known and read: the listeners' properties stand first among the names
pub heard_read : (graph now : State) (heard lent : List (Name × ℕ)) (names given : List Name) (more : List ℕ)
    → AreKnown graph.entries names → numbers names ≡ names_of heard ++ more → given ≡ names → lent ≡ heard
    → now ≡ after_read_all (numbers given) graph
    → All (λ (to : Name × ℕ). unknown_in now.entries to.0.0 ≡ false) lent × All (λ (to : Name × ℕ). marked now.unread to.0.0 ≡ false) lent
heard_read graph now heard lent names given more known led gift loan read = (
  subst (λ (s : State). All (λ (to : Name × ℕ). unknown_in s.entries to.0.0 ≡ false) lent) (sym read)
      (all_from (λ (to : Name × ℕ). unknown_in graph.entries to.0.0 ≡ false) lent
      (λ to c.
      let found = map_contains (λ (name : Name). name.0) names to.0.0 (inside to c) in
      subst (λ n. unknown_in graph.entries n ≡ false) found.2
      (All-contains (λ (name : Name). unknown_in graph.entries name.0 ≡ false) names found.0 known found.1))),
  subst (λ (s : State). All (λ (to : Name × ℕ). marked s.unread to.0.0 ≡ false) lent) (sym read)
      (all_from (λ (to : Name × ℕ). marked (after_read_all (numbers given) graph).unread to.0.0 ≡ false) lent
      (λ to c.
      reads_off graph.entries (numbers given) graph.unread to.0.0
      (subst (λ (ns : List Name). Contains (numbers ns) to.0.0) (sym gift) (inside to c)))),
)
  where
    inside : (to : Name × ℕ) → Contains lent to → Contains (numbers names) to.0.0
    inside to c =
        subst (λ (ns : List ℕ). Contains ns to.0.0) (sym led)
        (Contains-append_left (names_of heard) more to.0.0
        (contains_map (λ (x : Name × ℕ). x.0.0) heard to (subst (λ (ls : List (Name × ℕ)). Contains ls to) loan c)))

-- the listeners that were looked at and their values, lent as slices: all of them are told
pub tell_is : (graph now : State) (heard lent : List (Name × ℕ)) (before lent_before : List Value) (names : List ℕ)
    (notices : List (Name × ℕ × Value × Value)) → now ≡ after_read_all names graph → lent ≡ heard → lent_before ≡ before
    → ((was : List Entry) → lent_before ≡ values_of was lent → notices ≡ flat_map (notice_to was now.entries) lent)
    → (was : List Entry) → before ≡ values_of was heard → notices ≡ flat_map (notice_to was graph.entries) heard
tell_is graph now heard lent before lent_before names notices read loan loan_before each was old =
    each was (loan_before ∙ old ∙ ap (values_of was) (sym loan))
    ∙ ap (λ (s : State). flat_map (notice_to was s.entries) lent) read
    ∙ ap (flat_map (notice_to was graph.entries)) loan
