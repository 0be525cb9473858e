-- What a change step looks at before the change.
use Rattle.std.specs.Prelude.{ℕ, ◌≡◌, if◌then◌else◌, List, [], ◌∷◌, ◌++◌, map, filter}
use Rattle.std.specs.List.{flat_map}
use Rattle.fx_base.specs.declared.keys.Name.{Name}
use Rattle.fx_base.specs.declared.values.Value.{Value}
use Rattle.fx_base.specs.Names.{name_of, numbers}
use Rattle.fx_listen.specs.declared.entries.Listener.{Listener}
use Rattle.fx_listen.specs.declared.entries.ListenKind.{ListenKind}
use Rattle.fx_listen.specs.declared.entries.ListenKind.TheVariants.{Change}
use Rattle.fx_listen.specs.Listening.{same_kind, tells}
use Rattle.fx_graph_model.specs.declared.entries.Entry.{Entry}
use Rattle.fx_graph_model.specs.Eager.{eager}
use Rattle.fx_graph_model.specs.Equality.{same_value}

-- a listener is told by its property and its number
abbrev pub told_as : Listener → Name × ℕ
told_as listener = (listener.name, listener.number)

-- the change listeners among these
abbrev pub heard_of : List Listener → List (Name × ℕ)
heard_of listeners = map told_as (filter (λ (listener : Listener). same_kind listener.kind Change) listeners)

-- the listeners of one kind on these properties, by property and then by number
abbrev pub heard_on : ListenKind → List ℕ → List Listener → List (Name × ℕ)
heard_on kind names listeners =
    flat_map
    (λ (name : ℕ). map (λ (listener : Listener). (name_of name, listener.number)) (filter (tells name kind) listeners))
    names

-- the properties of the listeners, one for each
abbrev pub properties_of : List (Name × ℕ) → List Name
properties_of heard = map (λ (to : Name × ℕ). to.0) heard

-- and their numbers
abbrev pub names_of : List (Name × ℕ) → List ℕ
names_of heard = map (λ (to : Name × ℕ). to.0.0) heard

-- both ends of each pair
abbrev pub ends_of : List (ℕ × ℕ) → List ℕ
ends_of pairs = flat_map (λ (pair : ℕ × ℕ). pair.0 ∷ pair.1 ∷ []) pairs

-- the names that are read after a change: first those of the change listeners
abbrev pub watch_list : List (ℕ × ℕ) → List Listener → List ℕ
watch_list pairs listeners = names_of (heard_of listeners) ++ ends_of pairs

-- the values of the listeners' properties
abbrev pub values_of : List Entry → List (Name × ℕ) → List Value
values_of entries heard = map (λ (to : Name × ℕ). eager entries to.0.0) heard

-- it is told where its property has another value
abbrev pub notice_to : List Entry → List Entry → Name × ℕ → List (Name × ℕ × Value × Value)
notice_to before now to =
    if same_value (eager before to.0.0) (eager now to.0.0)
    then []
    else (to.0, to.1, eager before to.0.0, eager now to.0.0) ∷ []

-- the names to be read begin with those of the listeners, and these are the values of the listeners' properties
pub record IsWatch (entries : List Entry) (heard : List (Name × ℕ)) (names : List Name) (before : List Value)
    : Type 0 where
  pub more : List ℕ
  pub led : numbers names ≡ names_of heard ++ more
  pub values : before ≡ values_of entries heard
