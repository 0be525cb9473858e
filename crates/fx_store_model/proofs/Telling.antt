-- The notices of changed values: none where nothing changed, and one listener after another.
use Rattle.std.proofs.Common.{◌≡◌, ℕ, ◌+◌, ◌<◌, Bool, true, false, cond, List, [], ◌∷◌, ◌++◌, length, map, filter, get_or, take, refl, sym, ◌∙◌, ap, inl, inr, ◌⊎◌}
use Rattle.std.specs.List.{Contains, flat_map}
use Rattle.std.proofs.lemmas.Bool.{cases_Bool}
use Rattle.std.proofs.lemmas.List.{append-nil, get_or-map, take_more}
use Rattle.std.proofs.lemmas.List.Concat.{flat_map-append}
use Rattle.fx_base.specs.declared.keys.Name.{Name}
use Rattle.fx_base.specs.declared.values.Value.{Value}
use Rattle.fx_listen.specs.declared.entries.Listener.{Listener}
use Rattle.fx_listen.specs.declared.entries.ListenKind.TheVariants as listening
use Rattle.fx_listen.specs.Listening.{same_kind}
use Rattle.fx_graph_model.specs.declared.entries.Entry.{Entry}
use Rattle.fx_graph_model.specs.Eager.{eager}
use Rattle.fx_graph_model.specs.Equality.{same_value}
use Rattle.fx_graph_model.proofs.Members.{contains_first, contains_later, filter_contains}
use Rattle.fx_graph_model.proofs.Same.{Decides-value}
use Rattle.fx_store_model.specs.Step.{changed_notice, changed_notices}

-- those that are told of changed values
abbrev pub hears : Listener → Bool
hears listener = same_kind listener.kind listening.Change

abbrev pub heard_in : List Listener → List Listener
heard_in listeners = filter hears listeners

none_of : {X Y : Type 0} (f : X → List Y) (xs : List X) → ((x : X) → Contains xs x → f x ≡ []) → flat_map f xs ≡ []
none_of f [] none = refl
none_of {X} {Y} f (x ∷ xs) none =
    ap (λ (ys : List Y). ys ++ flat_map f xs) (none x (contains_first x xs))
    ∙ none_of f xs (λ z c. none z (contains_later x xs z c))

-- nothing is told of a value that is as before
pub untold : (before now : List Entry) (listener : Listener) → eager now listener.name.0 ≡ eager before listener.name.0
    → changed_notice before now listener ≡ []
untold before now listener same =
    ap
    (λ (b : Bool). cond b []
    ((listener.name, listener.number, eager before listener.name.0, eager now listener.name.0) ∷ []))
    ((Decides-value (eager before listener.name.0) (eager now listener.name.0)).1 (sym same))

pub changed_none : (before now : List Entry) (listeners : List Listener)
    → ((listener : Listener) → Contains listeners listener → hears listener ≡ true
    → eager now listener.name.0 ≡ eager before listener.name.0)
    → changed_notices before now listeners ≡ []
changed_none before now listeners same =
    none_of (changed_notice before now) (heard_in listeners)
    (λ listener c.
    let member = filter_contains hears listeners listener c in
    untold before now listener (same listener member.0 member.1))

pub changed_same : (es : List Entry) (listeners : List Listener) → changed_notices es es listeners ≡ []
changed_same es listeners = changed_none es es listeners (λ listener _ _. refl)

-- what the first so many are told
abbrev pub told : List Entry → List Entry → List Listener → ℕ → List (Name × ℕ × Value × Value)
told before now heard count = flat_map (changed_notice before now) (take count heard)

-- one listener more
pub told_more : (before now : List Entry) (heard : List Listener) (i : ℕ) (d : Listener) → i < length heard
    → told before now heard (i + 1) ≡ told before now heard i ++ changed_notice before now (get_or heard i d)
told_more before now heard i d within =
    ap (flat_map (changed_notice before now)) (take_more heard i d within)
    ∙ flat_map-append (changed_notice before now) (take i heard) (get_or heard i d ∷ [])
    ∙ ap (λ (ns : List (Name × ℕ × Value × Value)). told before now heard i ++ ns) (append-nil (changed_notice before now (get_or heard i d)))

-- the value of each one's property
abbrev pub values_heard : List Entry → List Listener → List Value
values_heard es heard = map (λ (listener : Listener). eager es listener.name.0) heard

pub value_heard : (es : List Entry) (heard : List Listener) (i : ℕ) (d : Listener) (other : Value) → i < length heard
    → get_or (values_heard es heard) i other ≡ eager es (get_or heard i d).name.0
value_heard es heard i d other within = get_or-map (λ (listener : Listener). eager es listener.name.0) heard i d other within

-- one turn of a loop over the listeners, with both values of each one's property in lists of their own
pub told_turn : (before now : List Entry) (heard : List Listener) (i : ℕ) (listener : Listener) (first second : Value) → i < length heard
    → listener ≡ get_or heard i listener → first ≡ get_or (values_heard before heard) i first
    → second ≡ get_or (values_heard now heard) i second
    → told before now heard (i + 1)
    ≡ cond (same_value first second) (told before now heard i)
    (told before now heard i ++ (listener.name, listener.number, first, second) ∷ [])
told_turn before now heard i listener first second within here was is =
    told_more before now heard i listener within
    ∙ ap (λ (l : Listener). told before now heard i ++ changed_notice before now l) (sym here)
    ∙ ap (λ (v : Value). told before now heard i ++ notice v (eager now listener.name.0)) (sym old)
    ∙ ap (λ (v : Value). told before now heard i ++ notice first v) (sym new)
    ∙ by_case (cases_Bool (same_value first second))
  where
    notice : Value → Value → List (Name × ℕ × Value × Value)
    notice one other = cond (same_value one other) [] ((listener.name, listener.number, one, other) ∷ [])

    old : first ≡ eager before listener.name.0
    old =
        was ∙ value_heard before heard i listener first within
        ∙ ap (λ (l : Listener). eager before l.name.0) (sym here)

    new : second ≡ eager now listener.name.0
    new =
        is ∙ value_heard now heard i listener second within
        ∙ ap (λ (l : Listener). eager now l.name.0) (sym here)

    by_case : (same_value first second ≡ true) ⊎ (same_value first second ≡ false)
        → told before now heard i ++ notice first second
        ≡ cond (same_value first second) (told before now heard i)
        (told before now heard i ++ (listener.name, listener.number, first, second) ∷ [])
    by_case (inl same) = rw same (append-nil (told before now heard i))
    by_case (inr other) = rw other refl
