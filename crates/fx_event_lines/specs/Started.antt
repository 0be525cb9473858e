-- What an event line changes, and the events that it starts.
use Rattle.std.specs.Prelude.{List, [], map, Option, option_to_list}
use Rattle.fx_base.specs.declared.keys.NodeKey.{NodeKey}
use Rattle.fx_events.specs.declared.kinds.EventKind.{EventKind}
use Rattle.fx_stage_model.specs.World.{World}
use Rattle.fx_event_lines.specs.declared.events.Event.{Event}

-- the world that the line makes, and what is to be sent then, in order
pub record Started : Type 0 where
  pub world : World
  pub events : List Event

-- an event to a node
abbrev pub sent : EventKind → NodeKey → Event
sent on target = record { on = on; target = target }

-- one to each of these nodes
abbrev pub sent_to : EventKind → List NodeKey → List Event
sent_to on targets = map (sent on) targets

-- one to the node, if there is one
abbrev pub sent_if : EventKind → Option NodeKey → List Event
sent_if on target = sent_to on (option_to_list target)

-- no event is started
abbrev pub quietly : World → Started
quietly world = record { world = world; events = [] }
