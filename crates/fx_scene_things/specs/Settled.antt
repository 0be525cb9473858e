-- Nodes of definitions within values that were read already.
use Rattle.std.specs.Prelude.{Bool, ◌==◌, ◌&&◌, List, Option}
use Rattle.std.specs.List.{find}
use Rattle.std.specs.Option.{option_map}
use Rattle.fx_base.specs.declared.positions.Position.{Position}
use Rattle.fx_scene_things.specs.Names.{Names}

-- where such a node stands, and the names that are known behind it
pub record Settled : Type 0 where
  pub place : Position
  pub names : Names

abbrev pub settled_of : Position → Names → Settled
settled_of place names = record { place = place; names = names }

abbrev pub is_at : Position → Settled → Bool
is_at place settled = (settled.place.line == place.line) && (settled.place.column == place.column)

-- the names that are known behind the node at this place, if it was read
abbrev pub names_behind : List Settled → Position → Option Names
names_behind settled place = option_map (λ (node : Settled). node.names) (find (is_at place) settled)
