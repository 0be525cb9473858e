-- What each call makes of the store. Source: JavaFX 21 properties (javafx.beans.property, javafx.beans.binding).
use Rattle.std.specs.Prelude.{ℕ, ◌≡◌, Bool, true, false, All, length, not, if◌then◌else◌, List, [], ◌∷◌, ◌++◌, map, filter, slice_set}
use Rattle.fx_base.specs.declared.keys.Name.{Name}
use Rattle.fx_base.specs.declared.kinds.Kind.{Kind}
use Rattle.fx_base.specs.declared.values.Value.{Value}
use Rattle.fx_expr.specs.Tree.{Tree}
use Rattle.fx_graph_model.specs.declared.entries.Entry.{Entry}
use Rattle.fx_graph_model.specs.declared.entries.Origin.TheVariants as origin
use Rattle.fx_graph_model.specs.declared.entries.Definition.TheVariants.{Base, Bound, Forgotten}
use Rattle.fx_graph_model.specs.Equality.{same_value}
use Rattle.fx_graph_model.specs.Uses.{entry_of, bound_in, unknown_in}
use Rattle.fx_graph_model.specs.Eager.{eager}
use Rattle.fx_graph_model.specs.Unread.{marked, after_marking, newly_marked, after_reading, after_reads, IsPartRead}

-- a flag for each entry: the name is unread; and the names that came newly to it in the last change, rising
pub record State : Type 0 where
  pub entries : List Entry
  pub unread : List Bool
  pub newly : List ℕ

abbrev pub empty : State
empty = record { entries = []; unread = []; newly = [] }

abbrev pub new_entry : Kind → Bool → Value → Entry
new_entry kind read_only value =
    record { kind = kind; read_only = read_only; origin = origin.Initial; definition = Base value }

abbrev pub after_declare : Kind → Bool → Value → State → State
after_declare kind read_only value state =
    record state {
      entries = state.entries ++ new_entry kind read_only value ∷ [];
      unread = state.unread ++ false ∷ [];
    }

abbrev pub after_read : ℕ → State → State
after_read name state = record state { unread = after_reading state.entries name state.unread }

-- the entry with this value; set by code it says so, and published it keeps its origin
abbrev pub given : Bool → Value → Entry → Entry
given sets value entry =
    record entry { origin = if sets then origin.Code else entry.origin; definition = Base value }

-- each name of the pairs has its value
abbrev pub with_values : Bool → List (Name × Value) → List Entry → List Entry
with_values sets [] entries = entries
with_values sets (pair ∷ pairs) entries =
    with_values sets pairs (slice_set entries pair.0.0 (given sets pair.1 (entry_of entries pair.0.0)))

-- the names of the pairs whose value is another one
abbrev pub changed : List (Name × Value) → List Entry → List ℕ
changed pairs entries =
    map (λ (pair : Name × Value). pair.0.0)
    (filter (λ (pair : Name × Value). not (same_value (eager entries pair.0.0) pair.1)) pairs)

-- the entries are these now, and these names changed
abbrev pub after_change : List Entry → List ℕ → State → State
after_change entries names state =
    record {
      entries = entries;
      unread = after_marking entries names state.unread;
      newly = newly_marked entries names state.unread;
    }

abbrev pub after_values : Bool → List (Name × Value) → State → State
after_values sets pairs state = after_change (with_values sets pairs state.entries) (changed pairs state.entries) state

abbrev pub bound_to : Tree → List ℕ → Entry → Entry
bound_to expr operands entry = record entry { origin = origin.Bound; definition = Bound expr operands }

abbrev pub with_binding : ℕ → Tree → List ℕ → List Entry → List Entry
with_binding name expr operands entries = slice_set entries name (bound_to expr operands (entry_of entries name))

abbrev pub after_bind : ℕ → Tree → List ℕ → State → State
after_bind name expr operands state =
    after_change (with_binding name expr operands state.entries) (name ∷ []) state

-- a bound name is read and keeps its value, set by code; another one stays as it is
abbrev pub after_unbind : ℕ → State → State
after_unbind name state =
    if bound_in state.entries name
    then record state {
      entries = slice_set state.entries name (given true (eager state.entries name) (entry_of state.entries name));
      unread = after_reading state.entries name state.unread;
    }
    else state

abbrev pub forgotten : Entry → Entry
forgotten entry = record entry { definition = Forgotten }

abbrev pub forget_all : List ℕ → List Entry → List Entry
forget_all [] entries = entries
forget_all (name ∷ names) entries = forget_all names (slice_set entries name (forgotten (entry_of entries name)))

abbrev pub clear_all : List ℕ → List Bool → List Bool
clear_all [] flags = flags
clear_all (name ∷ names) flags = clear_all names (slice_set flags name false)

abbrev pub after_forget : List ℕ → State → State
after_forget names state =
    record state { entries = forget_all names state.entries; unread = clear_all names state.unread }

-- memory was wanting in a read: some of the names that it needs were read
pub record IsReadInPart (name : ℕ) (before now : State) : Type 0 where
  pub entries : now.entries ≡ before.entries
  pub unread : IsPartRead before.entries name before.unread now.unread
  pub newly : now.newly ≡ before.newly

-- all these names are known
abbrev pub AreKnown : List Entry → List Name → Type 0
AreKnown entries names = All (λ (name : Name). unknown_in entries name.0 ≡ false) names

-- all these names are read
abbrev pub after_read_all : List ℕ → State → State
after_read_all names state = record state { unread = after_reads state.entries names state.unread }

-- some names were read, and nothing else changed
pub record IsSomeRead (before now : State) : Type 0 where
  pub entries : now.entries ≡ before.entries
  pub flags : length now.unread ≡ length before.unread
  pub fewer : (name : ℕ) → marked now.unread name ≡ true → marked before.unread name ≡ true
  pub newly : now.newly ≡ before.newly
