-- Events on their way through the scene. Source: JavaFX 21 (`EventDispatchChain`: filters from the root to the target,
-- handlers back to the root).
use Rattle.std.specs.Prelude.{ℕ, ◌+◌, Bool, ◌||◌, ◌&&◌, not, List, [], ◌∷◌, ◌++◌, map, reverse, if◌then◌else◌}
use Rattle.fx_base.specs.declared.keys.NodeKey.{NodeKey}
use Rattle.fx_event_lines.specs.declared.events.Event.{Event}
use Rattle.fx_events.specs.Events.{is_same_type}
use Rattle.fx_events.specs.Handlers.{calls_of}
use Rattle.fx_events.specs.Routes.{route_of}
use Rattle.fx_events.specs.declared.kinds.EventKind.{EventKind}
use Rattle.fx_events.specs.declared.kinds.EventKind.TheVariants.{Action}
use Rattle.fx_events.specs.declared.kinds.Phase.{Phase}
use Rattle.fx_events.specs.declared.kinds.Phase.TheVariants as phase
use Rattle.fx_plain_steps.specs.Courses.{Course}
use Rattle.fx_tree.specs.Scene.{is_alive}
use Rattle.fx_plain_dispatch.specs.Running.{AreCalled}

-- where an event passes by: a node, in one of the two phases
abbrev pub Pass : Type 0
Pass = Phase × NodeKey

-- down to the target for filters, and back for handlers
abbrev pub there_and_back : List NodeKey → List Pass
there_and_back route =
    map (λ (key : NodeKey). (phase.Filter, key)) route ++ map (λ (key : NodeKey). (phase.Handler, key)) (reverse route)

-- the event was consumed before, or the node was dropped meanwhile
abbrev pub is_passed_over : NodeKey → Course → Bool
is_passed_over key course = course.consumed || not (is_alive course.world.graph.tree.nodes key)

-- what the event calls there
abbrev pub calls_at : EventKind → Pass → Course → List (List ℕ)
calls_at on pass course =
    if is_passed_over pass.1 course then [] else calls_of course.world.graph.handlers pass.1 on pass.0

-- an event of this type passes by there, one after another
pub data ArePassed (on : EventKind) : List Pass → Course → Course → ℕ → Type 0 where
  no_pass : (course : Course) → ArePassed on [] course course 0
  one_pass : (pass : Pass) (passes : List Pass) (course next now : Course) (cost more : ℕ)
      → AreCalled (calls_at on pass course) course next cost → ArePassed on passes next now more
      → ArePassed on (pass ∷ passes) course now (cost + more)

-- an action follows a click or a key only where that wasn't consumed
abbrev pub is_left_out : Event → Course → Bool
is_left_out event course = is_same_type event.on Action && course.consumed

abbrev pub passes_of : Event → Course → List Pass
passes_of event course =
    if is_left_out event course
    then []
    else there_and_back (route_of course.world.graph.tree.nodes event.on event.target)

-- nobody has consumed the event yet
abbrev pub sent_off : Event → Course → Course
sent_off event course = record course { consumed = is_left_out event course }

-- these events are sent, each along the route that it has when its turn comes
pub data AreSent : List Event → Course → Course → ℕ → Type 0 where
  no_event : (course : Course) → AreSent [] course course 0
  one_event : (event : Event) (events : List Event) (course next now : Course) (cost more : ℕ)
      → ArePassed event.on (passes_of event course) (sent_off event course) next cost → AreSent events next now more
      → AreSent (event ∷ events) course now (cost + more)
