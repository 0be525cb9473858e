-- Lines on properties: `prop`, `set`, `get`, `bind`, `unbind`, `pair` and `unpair`.
use Rattle.std.specs.Prelude.{ℕ, ◌+◌, true, false, not, nat_le, nat_lt, ◌||◌, Bool, List, [], ◌∷◌, ◌++◌, codes, length, map, Option, Some, None, Result, Ok, Err, is_some, if◌then◌else◌}
use Rattle.std.specs.Map.{lookup}
use Rattle.std.specs.Str.{bytes_eq}
use Rattle.fx_base.specs.Names.{name_of}
use Rattle.fx_base.specs.declared.keys.Name.{Name}
use Rattle.fx_base.specs.declared.kinds.Kind.{Kind}
use Rattle.fx_base.specs.declared.kinds.Kind.TheVariants as kind
use Rattle.fx_base.specs.declared.values.Value.{Value}
use Rattle.fx_expr.specs.Tree.{is_within}
use Rattle.fx_graph_model.specs.Eager.{eager}
use Rattle.fx_graph_model.specs.Refusals.{kind_at, read_only_in}
use Rattle.fx_graph_model.specs.Unread.{after_reading, evaluations}
use Rattle.fx_look.specs.Readings.{value_at}
use Rattle.fx_script_commands.specs.Requests.{Expression}
use Rattle.fx_store_model.specs.declared.changes.Change.{Change}
use Rattle.fx_store_model.specs.declared.changes.Change.TheVariants.{Set, Bind, Unbind, Pair, Unpair}
use Rattle.fx_store_model.specs.declared.changes.Notices.{Notices}
use Rattle.fx_store_model.specs.declared.errors.StoreError.{StoreError}
use Rattle.fx_store_model.specs.Making.{after_declared, made}
use Rattle.fx_store_model.specs.Refusals.{refusal}
use Rattle.fx_store_model.specs.Step.{added_by, after, before_reads, changed_notices, cost, invalid_notices, newly}
use Rattle.fx_store_model.specs.Stored.{Stored, with_unread}
use Rattle.fx_stage_types.specs.declared.answers.StageError.{StageError}
use Rattle.fx_stage_types.specs.declared.answers.StageError.TheVariants.{Refused, Memory}
use Rattle.fx_stage_types.specs.declared.refusals.Refusal.{Refusal}
use Rattle.fx_stage_types.specs.declared.refusals.Refusal.TheVariants as word
use Rattle.fx_stage_types.specs.Words.{of_store}
use Rattle.fx_stage_model.specs.Answers.{Taken, all, and_then, both, or_word, quiet, silently, unless}
use Rattle.fx_stage_model.specs.Looking.{find}
use Rattle.fx_stage_model.specs.World.{World, with_names, with_store}

-- what a change of the store tells
abbrev pub told : Change → Stored → Notices
told change stored =
    record {
      added = added_by change stored;
      invalid = invalid_notices (newly change stored) (made change stored).listeners;
      changed = changed_notices stored.entries (made change stored).entries (made change stored).listeners;
    }

-- the word of a part's refusal; want of memory is none
abbrev pub word_in : StageError → Refusal
word_in (Refused refusal) = refusal
word_in Memory = word.Full

-- a change of the store, by the store's own refusal
abbrev pub by_store : Change → World → Option StoreError → Result Taken Refusal
by_store change world (Some error) = Err (word_in (of_store error))
by_store change world None =
    Ok (record {
      made = with_store (before_reads change world.store) world;
      world = with_store (after change world.store) world;
      value = None;
      notices = told change world.store;
      warnings = [];
      cost = cost change world.store;
    })

unfoldable pub changed : Change → World → Result Taken Refusal
changed change world = by_store change world (refusal change world.store)

-- the kind that a word of `prop` names
abbrev pub kind_named : List ℕ → Kind
kind_named name =
    if bytes_eq name (codes "int") then kind.Int else (if bytes_eq name (codes "bool") then kind.Bool else kind.Text)

-- 10,000 free properties are there, or all numbers of names were given
abbrev pub has_no_room : World → Bool
has_no_room world = nat_le 10000 (length world.names.free) || nat_le 4000000 (length world.store.entries)

abbrev pub with_free : List ℕ → Kind → Value → World → World
with_free name kind value world =
    record world {
      store = after_declared kind false value world.store;
      names = record world.names { free = world.names.free ++ (name, name_of (length world.store.entries)) ∷ [] };
    }

abbrev pub declared : List ℕ → Kind → Value → World → Result Taken Refusal
declared name kind value world = silently (with_free name kind value world)

unfoldable pub declare : List ℕ → List ℕ → List ℕ → World → Result Taken Refusal
declare name kind text world =
    and_then (or_word word.Value (value_at (kind_named kind) text)) (λ (value : Value).
    unless (is_some (lookup (bytes_eq name) world.names.free)) word.Exists
    (unless (has_no_room world) word.Full
    (declared name (kind_named kind) value world)))

unfoldable pub set : List (List ℕ) → List ℕ → World → Result Taken Refusal
set path text world =
    and_then (find world path) (λ (name : Name).
    unless (read_only_in world.store.entries name.0) word.ReadOnly
    (and_then (or_word word.Value (value_at (kind_at world.store.entries name.0) text)) (λ (value : Value).
    changed (Set name value) world)))

-- the property is read
abbrev pub after_read : Name → World → World
after_read name world =
    record world { store = with_unread (after_reading world.store.entries name.0 world.store.unread) world.store }

unfoldable pub get : List (List ℕ) → World → Result Taken Refusal
get path world =
    and_then (find world path) (λ (name : Name).
    Ok (record {
      made = world;
      world = after_read name world;
      value = Some (eager world.store.entries name.0);
      notices = quiet;
      warnings = [];
      cost = evaluations world.store.entries name.0 world.store.unread;
    }))

-- all paths are looked up before anything else is asked
unfoldable pub bound : List (List ℕ) → Expression → World → Result Taken Refusal
bound path expression world =
    and_then (both (find world path) (all (map (find world) expression.paths))) (λ (found : Name × List Name).
    changed (Bind found.0 expression.meaning found.1) world)

-- an expression that lacks an operand is of no form
unfoldable pub bind : List (List ℕ) → Expression → World → Result Taken Refusal
bind path expression world =
    unless (not (is_within expression.meaning (length expression.paths))) word.Syntax (bound path expression world)

unfoldable pub unbind : List (List ℕ) → World → Result Taken Refusal
unbind path world = and_then (find world path) (λ (name : Name). changed (Unbind name) world)

unfoldable pub pair : List (List ℕ) → List (List ℕ) → World → Result Taken Refusal
pair one other world =
    and_then (both (find world one) (find world other))
    (λ (found : Name × Name). changed (Pair found.0 found.1) world)

unfoldable pub unpair : List (List ℕ) → List (List ℕ) → World → Result Taken Refusal
unpair one other world =
    and_then (both (find world one) (find world other))
    (λ (found : Name × Name). changed (Unpair found.0 found.1) world)
