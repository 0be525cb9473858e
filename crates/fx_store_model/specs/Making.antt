-- What each change makes of the definitions, and which names it changes. Source: JavaFX 21 properties
-- (javafx.beans.property).
use Rattle.std.specs.Prelude.{ℕ, ◌+◌, ◌==◌, Bool, true, false, if◌then◌else◌, not, ◌&&◌, ◌||◌, List, [], ◌∷◌, ◌++◌, length, map, filter, Option}
use Rattle.std.specs.List.{range_with_len}
use Rattle.fx_base.specs.declared.keys.Name.{Name}
use Rattle.fx_base.specs.declared.kinds.Kind.{Kind}
use Rattle.fx_base.specs.declared.values.Value.{Value}
use Rattle.fx_handles.specs.declared.Owner.{Owner}
use Rattle.fx_handles.specs.Living.{Register}
use Rattle.fx_listen.specs.declared.entries.Listener.{Listener}
use Rattle.fx_listen.specs.declared.entries.ListenKind.{ListenKind}
use Rattle.fx_listen.specs.Listening.{is_equal, placed, without_first}
use Rattle.fx_graph_model.specs.declared.entries.Entry.{Entry}
use Rattle.fx_graph_model.specs.Changes.{changed, clear_all, forget_all, given, new_entry, with_binding, with_values}
use Rattle.fx_graph_model.specs.Eager.{eager}
use Rattle.fx_graph_model.specs.Equality.{same_value}
use Rattle.fx_base.specs.Names.{numbers}
use Rattle.fx_graph_model.specs.Unread.{after_reading}
use Rattle.fx_graph_model.specs.Uses.{entry_of, bound_in}
use Rattle.fx_store_model.specs.declared.changes.Change.{Change}
use Rattle.fx_store_model.specs.declared.changes.Change.TheVariants as change
use Rattle.fx_store_pairs.specs.Pairs.{group, is_among, joined, without_pair}
use Rattle.fx_store_model.specs.Stored.{Stored, with_unread}

-- the names that pass the test are set by code to the value
abbrev pub with_group : (ℕ → Bool) → Value → List Entry → List Entry
with_group test value entries =
    map
    (λ (name : ℕ). if test name then given true value (entry_of entries name) else entry_of entries name)
    (range_with_len 0 (length entries))

abbrev pub with_entries : List Entry → Stored → Stored
with_entries entries stored = record stored { entries = entries }

abbrev pub with_pairs : List (ℕ × ℕ) → Stored → Stored
with_pairs pairs stored = record stored { pairs = pairs }

abbrev pub with_listeners : List Listener → ℕ → Stored → Stored
with_listeners listeners given stored = record stored { listeners = listeners; given = given }

abbrev pub with_owners : Register → Stored → Stored
with_owners owners stored = record stored { owners = owners }

-- a further property with this value, which isn't unread
abbrev pub after_declared : Kind → Bool → Value → Stored → Stored
after_declared kind read_only value stored =
    record stored {
      entries = stored.entries ++ new_entry kind read_only value ∷ [];
      unread = stored.unread ++ false ∷ [];
    }

-- the property and all that are joined with it have the value
abbrev pub made_set : ℕ → Value → Stored → Stored
made_set name value stored = with_entries (with_group (joined stored.pairs name) value stored.entries) stored

-- read, and set by code to the value that it had
abbrev pub made_unbind : ℕ → Stored → Stored
made_unbind name stored =
    if bound_in stored.entries name
    then record stored {
      entries = with_group (λ (other : ℕ). other == name) (eager stored.entries name) stored.entries;
      unread = after_reading stored.entries name stored.unread;
    }
    else stored

-- the first and all that are joined with it, but for the second, have the second one's value, and the pair goes last
abbrev pub made_pair : ℕ → ℕ → Stored → Stored
made_pair one other stored =
    record stored {
      entries = with_group (λ (name : ℕ). joined stored.pairs one name && not (name == other))
          (eager stored.entries other) stored.entries;
      pairs = stored.pairs ++ (one, other) ∷ [];
    }

abbrev pub new_listener : ℕ → Name → ListenKind → Option Owner → ℕ → Listener
new_listener number name kind owner tag = record { number = number; name = name; kind = kind; owner = owner; tag = tag }

-- the property is read, and the listener has the next number
abbrev pub made_listen : Name → ListenKind → Option Owner → ℕ → Stored → Stored
made_listen name kind owner tag stored =
    with_listeners (placed (new_listener (stored.given + 1) name kind owner tag) stored.listeners) (stored.given + 1)
    (with_unread (after_reading stored.entries name.0 stored.unread) stored)

abbrev pub made_unlisten : ℕ → ListenKind → Option Owner → ℕ → Stored → Stored
made_unlisten name kind owner tag stored =
    with_listeners (without_first (is_equal name kind owner tag) stored.listeners) stored.given stored

-- nothing is left of the names but that they were declared
abbrev pub made_forget : List ℕ → Stored → Stored
made_forget names stored =
    record stored {
      entries = forget_all names stored.entries;
      unread = clear_all names stored.unread;
      pairs = filter (λ (pair : ℕ × ℕ). not (is_among names pair.0 || is_among names pair.1)) stored.pairs;
      listeners = filter (λ (listener : Listener). not (is_among names listener.name.0)) stored.listeners;
    }

unfoldable pub made : Change → Stored → Stored
made (change.Set name value) stored = made_set name.0 value stored
made (change.Publish pairs) stored = with_entries (with_values false pairs stored.entries) stored
made (change.Bind name expr operands) stored =
    with_entries (with_binding name.0 expr (numbers operands) stored.entries) stored
made (change.Unbind name) stored = made_unbind name.0 stored
made (change.Pair one other) stored = made_pair one.0 other.0 stored
made (change.Unpair one other) stored = with_pairs (without_pair one.0 other.0 stored.pairs) stored
made (change.Listen name kind owner tag) stored = made_listen name kind owner tag stored
made (change.Unlisten name kind owner tag) stored = made_unlisten name.0 kind owner tag stored
made (change.Forget names) stored = made_forget (numbers names) stored

-- all that are joined with the name, where it has another value
abbrev pub moved : ℕ → Value → Stored → List ℕ
moved name value stored =
    if same_value (eager stored.entries name) value then [] else group stored.pairs (length stored.entries) name

unfoldable pub changed_by : Change → Stored → List ℕ
changed_by (change.Set name value) stored = moved name.0 value stored
changed_by (change.Publish pairs) stored = changed pairs stored.entries
changed_by (change.Bind name expr operands) stored = name.0 ∷ []
changed_by (change.Pair one other) stored = moved one.0 (eager stored.entries other.0) stored
changed_by _ stored = []
