-- The world between two script lines, but for the frame that was written last.
use Rattle.std.specs.Prelude.{◌≡◌, ℕ, ℤ, Bool, false, List, [], ◌==◌, filter, Option, None}
use Rattle.std.specs.List.{list_any}
use Rattle.fx_base.specs.declared.keys.Name.{Name}
use Rattle.fx_handles.specs.declared.Owner.{Owner}
use Rattle.fx_listen.specs.declared.entries.Listener.{Listener}
use Rattle.fx_script_commands.specs.Requests.{Numbered}
use Rattle.fx_store_model.specs.Stored.{Stored, empty}
use Rattle.fx_stage_model.specs.Graphs.{Graph, bare}

-- The names of a script: free properties, owners by their labels, actions with their lines; then the actions that
-- listeners run, in the order in which they were first named; and for each living listener the property's path as it
-- was written.
pub record Names : Type 0 where
  pub free : List (List ℕ × Name)
  pub labels : List (List ℕ × Owner)
  pub actions : List (List ℕ × List Numbered)
  pub run : List (List ℕ)
  pub written : List (ℕ × List (List ℕ))

-- The properties with their pairs, listeners and owners, the scene graph, the script's names, the pointer if it was
-- ever moved, whether the button is down, and the window if there is one.
pub record World : Type 0 where
  pub store : Stored
  pub graph : Graph
  pub names : Names
  pub pointer : Option (ℤ × ℤ)
  pub button : Bool
  pub window : Option (ℕ × ℕ)

abbrev pub unnamed : Names
unnamed = record { free = []; labels = []; actions = []; run = []; written = [] }

abbrev pub nowhere : World
nowhere =
    record { store = empty; graph = bare; names = unnamed; pointer = None; button = false; window = None }

-- no property is joined with another, and nobody listens, so that no change has anything read
pub record IsUnwatched (world : World) : Type 0 where
  pub pairs : world.store.pairs ≡ []
  pub listeners : world.store.listeners ≡ []

-- a listener of this number is living
abbrev pub is_listening : List Listener → ℕ → Bool
is_listening listeners number = list_any (λ (listener : Listener). listener.number == number) listeners

-- what is written of living listeners
abbrev pub still_written : List Listener → List (ℕ × List (List ℕ)) → List (ℕ × List (List ℕ))
still_written listeners written = filter (λ (entry : ℕ × List (List ℕ)). is_listening listeners entry.0) written

-- the parts of a world exchanged
abbrev pub with_graph : Graph → World → World
with_graph graph world = record world { graph = graph }

abbrev pub with_names : Names → World → World
with_names names world = record world { names = names }

-- the store is another, and of listeners that are gone nothing is written
abbrev pub with_store : Stored → World → World
with_store store world =
    record world {
      store = store;
      names = record world.names { written = still_written store.listeners world.names.written };
    }

-- the world of these parts; of listeners that are gone nothing is written
abbrev pub names_of : List (List ℕ × Name) → List (List ℕ × Owner) → List (List ℕ × List Numbered) → List (List ℕ)
    → List (ℕ × List (List ℕ)) → Names
names_of free labels actions run written =
    record { free = free; labels = labels; actions = actions; run = run; written = written }

abbrev pub world_of : Stored → Graph → Names → Option (ℤ × ℤ) → Bool → Option (ℕ × ℕ) → World
world_of store graph names pointer button window =
    record { store = store; graph = graph; names = names; pointer = pointer; button = button; window = window }
