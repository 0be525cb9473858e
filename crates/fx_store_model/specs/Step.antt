-- One change step: the change is made, what changed is unread with all that uses it, and listeners are told: first of
-- what became unread, and then, as every watched name is read, of what has another value.
use Rattle.std.specs.Prelude.{ℕ, ◌+◌, ◌≡◌, ◌⊎◌, true, false, All, AllPairs, ◌≢◌, if◌then◌else◌, List, [], ◌∷◌, length, map, filter, Option, Some, None}
use Rattle.std.specs.List.{flat_map}
use Rattle.fx_base.specs.declared.keys.Name.{Name}
use Rattle.fx_base.specs.declared.values.Value.{Value}
use Rattle.fx_listen.specs.declared.entries.Listener.{Listener}
use Rattle.fx_listen.specs.declared.entries.ListenKind.TheVariants as listening
use Rattle.fx_listen.specs.Listening.{same_kind, tells}
use Rattle.fx_graph_model.specs.declared.entries.Entry.{Entry}
use Rattle.fx_graph_model.specs.Eager.{eager}
use Rattle.fx_graph_model.specs.Equality.{same_value}
use Rattle.fx_expr.specs.Tree.{is_within}
use Rattle.fx_base.specs.Names.{name_of}
use Rattle.fx_graph_model.specs.Refusals.{read_only_in}
use Rattle.fx_graph_model.specs.Uses.{unknown_in}
use Rattle.fx_graph_model.specs.Unread.{after_marking, evaluations, evaluations_of, marked, newly_marked}
use Rattle.fx_store_model.specs.declared.changes.Change.{Change}
use Rattle.fx_store_model.specs.declared.changes.Change.TheVariants.{Bind, Listen, Publish, Unbind}
use Rattle.fx_store_model.specs.declared.changes.Notices.{Notices}
use Rattle.fx_store_model.specs.Making.{changed_by, made}
use Rattle.fx_store_model.specs.Refusals.{IsAllowed}
use Rattle.fx_store_model.specs.Stored.{Stored, after_watching, watched_names, with_unread}

-- these names changed
abbrev pub marked_by : List ℕ → Stored → Stored
marked_by names stored = with_unread (after_marking stored.entries names stored.unread) stored

-- made, and not yet read
unfoldable pub before_reads : Change → Stored → Stored
before_reads change stored = marked_by (changed_by change stored) (made change stored)

abbrev pub after : Change → Stored → Stored
after change stored = after_watching (before_reads change stored)

-- each of these names, rising, tells its invalidation listeners, by number
abbrev pub invalid_notices : List ℕ → List Listener → List (Name × ℕ)
invalid_notices names listeners =
    flat_map
    (λ (name : ℕ).
    map (λ (listener : Listener). (name_of name, listener.number)) (filter (tells name listening.Invalid) listeners))
    names

-- a change listener is told where its property has another value
abbrev pub changed_notice : List Entry → List Entry → Listener → List (Name × ℕ × Value × Value)
changed_notice before now listener =
    let name = listener.name in
    if same_value (eager before name.0) (eager now name.0)
    then []
    else (name, listener.number, eager before name.0, eager now name.0) ∷ []

abbrev pub changed_notices : List Entry → List Entry → List Listener → List (Name × ℕ × Value × Value)
changed_notices before now listeners =
    flat_map (changed_notice before now)
    (filter (λ (listener : Listener). same_kind listener.kind listening.Change) listeners)

abbrev pub newly : Change → Stored → List ℕ
newly change stored = newly_marked (made change stored).entries (changed_by change stored) (made change stored).unread

abbrev pub added_by : Change → Stored → Option ℕ
added_by (Listen name kind owner tag) stored = Some (stored.given + 1)
added_by _ stored = None

-- what a change tells
pub record Tells (change : Change) (stored : Stored) (notices : Notices) : Type 0 where
  pub added : notices.added ≡ added_by change stored
  pub invalid : notices.invalid ≡ invalid_notices (newly change stored) (made change stored).listeners
  pub changed : notices.changed
      ≡ changed_notices stored.entries (made change stored).entries (made change stored).listeners

-- how many unread bound names the watched ones need
abbrev pub due : Stored → ℕ
due stored = evaluations_of stored.entries (watched_names stored) stored.unread

abbrev pub read_before : Change → Stored → ℕ
read_before (Unbind name) stored = evaluations stored.entries name.0 stored.unread
read_before (Listen name kind owner tag) stored = evaluations stored.entries name.0 stored.unread
read_before _ stored = 0

-- how often a change may evaluate an expression: for what was left unread, for what it reads itself, and for what it
-- changed
unfoldable pub cost : Change → Stored → ℕ
cost change stored = due stored + (read_before change stored + due (before_reads change stored))

-- all but the flags is the same, and no name became unread
pub record IsReadSome (before now : Stored) : Type 0 where
  pub rest : now ≡ with_unread now.unread before
  pub flags : length now.unread ≡ length before.unread
  pub fewer : (name : ℕ) → marked now.unread name ≡ true → marked before.unread name ≡ true

-- memory was wanting: the change is not made, or it is allowed and wholly made, but for reads of some names
abbrev pub IsUnfinished : Change → Stored → Stored → Type 0
IsUnfinished change before now =
    IsReadSome before now ⊎ (IsAllowed change before × IsReadSome (before_reads change before) now)

-- what a change needs of its words: a publication names read-only properties, each once, and a binding has an operand
-- for each place of its expression
abbrev pub IsFit : Change → Stored → Type 0
IsFit (Publish pairs) stored =
    AllPairs (λ (one other : Name × Value). one.0 ≢ other.0) pairs
    × All
    (λ (pair : Name × Value). unknown_in stored.entries pair.0.0 ≡ false → read_only_in stored.entries pair.0.0 ≡ true)
    pairs
IsFit (Bind name expr operands) stored = is_within expr (length operands) ≡ true
IsFit change stored = Unit {0}
