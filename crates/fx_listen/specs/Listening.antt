-- The listeners of properties: who is told of a change, by property and then by number. A listener may have an owner,
-- and is dead where its owner is. Source: JavaFX 21 (`InvalidationListener`, `ChangeListener` and their weak forms),
-- with release in the place of garbage collection.
use Rattle.std.specs.Prelude.{ℕ, ◌==◌, ◌≡◌, ◌<◌, ◌≤◌, ◌⊎◌, nat_lt, nat_le, Bool, true, false, if◌then◌else◌, not, ◌&&◌, ◌||◌, List, [], ◌∷◌, ◌++◌, length, map, filter, All, AllPairs, Option, Some, None}
use Rattle.std.specs.List.{list_any}
use Rattle.fx_handles.specs.declared.Owner.{Owner}
use Rattle.fx_handles.specs.Living.{is_same}
use Rattle.fx_store_pairs.specs.Pairs.{is_among}
use Rattle.fx_listen.specs.declared.ListenError.{ListenError}
use Rattle.fx_listen.specs.declared.ListenError.TheVariants.{StaleOwner, Full}
use Rattle.fx_listen.specs.declared.entries.ListenKind.{ListenKind}
use Rattle.fx_listen.specs.declared.entries.ListenKind.TheVariants.{Invalid, Change}
use Rattle.fx_listen.specs.declared.entries.Listener.{Listener}

-- the listeners by property and then by number, and the last number that was given, 0 at first
pub record Table : Type 0 where
  pub entries : List Listener
  pub given : ℕ

abbrev pub nobody : Table
nobody = record { entries = []; given = 0 }

-- there is no owner, or a living one
abbrev pub has_life : List Owner → Option Owner → Bool
has_life living None = true
has_life living (Some owner) = list_any (is_same owner) living

abbrev pub is_live : List Owner → Listener → Bool
is_live living listener = has_life living listener.owner

abbrev pub living_in : List Owner → List Listener → List Listener
living_in living entries = filter (is_live living) entries

abbrev pub same_kind : ListenKind → ListenKind → Bool
same_kind Invalid Invalid = true
same_kind Invalid Change = false
same_kind Change Invalid = false
same_kind Change Change = true

-- both are none, or one owner
abbrev pub same_owner : Option Owner → Option Owner → Bool
same_owner None None = true
same_owner None (Some other) = false
same_owner (Some one) None = false
same_owner (Some one) (Some other) = is_same one other

-- it tells of this property in this way
abbrev pub tells : ℕ → ListenKind → Listener → Bool
tells name kind listener = (listener.name.0 == name) && same_kind listener.kind kind

-- it is the one of this number on this property
abbrev pub is_numbered : ℕ → ℕ → Listener → Bool
is_numbered name number listener = (listener.name.0 == name) && (listener.number == number)

-- it was added by equal words
abbrev pub is_equal : ℕ → ListenKind → Option Owner → ℕ → Listener → Bool
is_equal name kind owner tag listener =
    tells name kind listener && (same_owner listener.owner owner && (listener.tag == tag))

-- it stands behind all on its property and on those before
abbrev pub placed : Listener → List Listener → List Listener
placed listener entries =
    filter (λ (other : Listener). nat_le other.name.0 listener.name.0) entries
    ++ listener ∷ filter (λ (other : Listener). nat_lt listener.name.0 other.name.0) entries

-- without the dead, where there are 10,000 in all
abbrev pub pruned : List Owner → List Listener → List Listener
pruned living entries =
    if nat_le 10000 (length entries) then living_in living entries else entries

abbrev pub after_add : List Owner → Listener → Table → Table
after_add living listener table =
    record { entries = placed listener (pruned living table.entries); given = listener.number }

-- the first that passes the test is gone
abbrev pub without_first : (Listener → Bool) → List Listener → List Listener
without_first test [] = []
without_first test (listener ∷ entries) = if test listener then entries else listener ∷ without_first test entries

abbrev pub after_remove : (Listener → Bool) → Table → Table
after_remove test table = record table { entries = without_first test table.entries }

-- it tells of another property
abbrev pub is_elsewhere : ℕ → Listener → Bool
is_elsewhere name listener = not (listener.name.0 == name)

-- nobody listens to the property any more
abbrev pub after_forget : ℕ → Table → Table
after_forget name table = record table { entries = filter (is_elsewhere name) table.entries }

-- nobody listens to these properties any more
abbrev pub after_forget_all : List ℕ → Table → Table
after_forget_all names table =
    record table {
      entries = filter (λ (listener : Listener). not (is_among names listener.name.0)) table.entries;
    }

-- the owner must be alive; and then 10,000 may be live, and numbers end
abbrev pub add_refusal : List Owner → Option Owner → Table → Option ListenError
add_refusal living owner table =
    if has_life living owner
    then (if nat_le 10000 (length (living_in living table.entries)) || nat_le 4294967295 table.given
    then Some Full
    else None)
    else Some StaleOwner

abbrev pub numbers_of : List Listener → List ℕ
numbers_of listeners = map (λ (listener : Listener). listener.number) listeners

-- one stands before the other: on a property before, or on the same with a lower number
abbrev pub IsBefore : Listener → Listener → Type 0
IsBefore one other = (one.name.0 < other.name.0) ⊎ ((one.name.0 ≡ other.name.0) × (one.number < other.number))

-- what is true of every table
pub record IsSound (table : Table) : Type 0 where
  pub sorted : AllPairs IsBefore table.entries
  pub given : All (λ (listener : Listener). listener.number ≤ table.given) table.entries
