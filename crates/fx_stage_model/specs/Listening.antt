-- Lines on owners and listeners: `owner`, `release`, `listen`, `unlisten`, `watch` and `unwatch`.
use Rattle.std.specs.Prelude.{ℕ, ◌+◌, Bool, false, not, min, List, [], ◌∷◌, ◌++◌, codes, length, Option, Some, None, unwrap_or, Result, Ok, Err, is_some, if◌then◌else◌}
use Rattle.std.specs.List.{position}
use Rattle.std.specs.Map.{lookup}
use Rattle.std.specs.Option.{option_map, option_map_or}
use Rattle.std.specs.Str.{bytes_eq}
use Rattle.fx_base.specs.declared.keys.Name.{Name}
use Rattle.indexmap.specs.IndexMap.{insert_entry}
use Rattle.fx_handles.specs.declared.Owner.{Owner}
use Rattle.fx_handles.specs.Living.{after_make}
use Rattle.fx_listen.specs.declared.entries.ListenKind.{ListenKind}
use Rattle.fx_listen.specs.declared.entries.ListenKind.TheVariants as listening
use Rattle.fx_listen.specs.Listening.{has_life}
use Rattle.fx_store_model.specs.declared.changes.Change.TheVariants.{Listen, Unlisten}
use Rattle.fx_store_model.specs.Making.{with_owners}
use Rattle.fx_store_model.specs.Refusals.{owner_refusal}
use Rattle.fx_store_model.specs.Stored.{after_end}
use Rattle.fx_stage_types.specs.declared.refusals.Refusal.{Refusal}
use Rattle.fx_stage_types.specs.declared.refusals.Refusal.TheVariants as word
use Rattle.fx_stage_model.specs.Answers.{Taken, and_then, both, or_word, silently, unless}
use Rattle.fx_stage_model.specs.Looking.{find}
use Rattle.fx_stage_model.specs.Properties.{changed}
use Rattle.fx_stage_model.specs.World.{Names, World, with_names, with_store}

abbrev pub kind_named : List ℕ → ListenKind
kind_named name = if bytes_eq name (codes "invalid") then listening.Invalid else listening.Change

-- the owner of a label, none where no label is written, or the word for why there is none
abbrev pub owner_of : World → Option (List ℕ) → Result (Option Owner) Refusal
owner_of world None = Ok None
owner_of world (Some label) = or_word word.Unknown (option_map Some (lookup (bytes_eq label) world.names.labels))

-- a property and an owner, or the first word for why one isn't there
abbrev pub find_both : World → List (List ℕ) → Option (List ℕ) → Result (Name × Option Owner) Refusal
find_both world path label = both (find world path) (owner_of world label)

abbrev pub has_living_owner : World → List ℕ → Bool
has_living_owner world label =
    option_map_or (λ (owner : Owner). has_life world.store.owners.living (Some owner))
    (lookup (bytes_eq label) world.names.labels) false

abbrev pub next_owner : ℕ → World → Owner
next_owner slot world = record { slot = slot; birth = world.store.owners.born + 1 }

abbrev pub with_owner : List ℕ → Owner → World → World
with_owner label owner world =
    record world {
      store = with_owners (after_make world.store.owners owner) world.store;
      names = record world.names { labels = insert_entry bytes_eq world.names.labels label owner };
    }

-- a further owner, which is kept in this slot
unfoldable pub own : ℕ → List ℕ → World → Result Taken Refusal
own slot label world =
    unless (has_living_owner world label) word.Exists
    (unless (is_some (owner_refusal world.store.owners)) word.Full
    (silently (with_owner label (next_owner slot world) world)))

unfoldable pub release : List ℕ → World → Result Taken Refusal
release label world =
    and_then (or_word word.Unknown (lookup (bytes_eq label) world.names.labels)) (λ (owner : Owner).
    unless (not (has_life world.store.owners.living (Some owner))) word.Stale
    (silently (with_store (after_end owner world.store) world)))

-- a listener that runs an action has the action's place from 1 as its tag, and any other has 0; there never are more
-- actions than there are numbers of listeners, so places end with the greatest of these
abbrev pub tag_of : List (List ℕ) → Option (List ℕ) → ℕ
tag_of run None = 0
tag_of run (Some action) = min (unwrap_or (position (bytes_eq action) run) (length run) + 1) 4294967295

abbrev pub with_run : Option (List ℕ) → List (List ℕ) → List (List ℕ)
with_run None run = run
with_run (Some action) run = if is_some (position (bytes_eq action) run) then run else run ++ action ∷ []

-- the listener of this number was asked for by this path, and runs this action if there is one
abbrev pub with_listener : ℕ → List (List ℕ) → Option (List ℕ) → World → World
with_listener number path action world =
    record world {
      names = record world.names {
        run = with_run action world.names.run;
        written = world.names.written ++ (number, path) ∷ [];
      };
    }

abbrev pub listened : ℕ → List (List ℕ) → Option (List ℕ) → Taken → Taken
listened number path action taken =
    record taken {
      made = with_listener number path action taken.made;
      world = with_listener number path action taken.world;
    }

-- `listen`, and with an action `watch`
unfoldable pub listen : List ℕ → List (List ℕ) → Option (List ℕ) → Option (List ℕ) → World
    → Result Taken Refusal
listen kind path action label world =
    and_then (find_both world path label) (λ (found : Name × Option Owner).
    and_then (changed (Listen found.0 (kind_named kind) found.1 (tag_of world.names.run action)) world)
    (λ (taken : Taken). Ok (listened (world.store.given + 1) path action taken)))

-- `unlisten`, and with an action `unwatch`
unfoldable pub unlisten : List ℕ → List (List ℕ) → Option (List ℕ) → Option (List ℕ) → World
    → Result Taken Refusal
unlisten kind path action label world =
    and_then (find_both world path label) (λ (found : Name × Option Owner).
    changed (Unlisten found.0 (kind_named kind) found.1 (tag_of world.names.run action)) world)
