-- Types of events and the handlers that they call. Source: JavaFX 21 (javafx.event.EventType and
-- EventHandler, javafx.scene.input.MouseEvent and KeyEvent, javafx.event.ActionEvent).
use Rattle.std.specs.Prelude.{ℕ, ◌==◌, Bool, List, [], ◌∷◌}
use Rattle.fx_events.specs.declared.kinds.EventKind.{EventKind}
use Rattle.fx_events.specs.declared.kinds.EventKind.TheVariants as kind
use Rattle.fx_events.specs.declared.kinds.Phase.{Phase}
use Rattle.fx_events.specs.declared.kinds.Phase.TheVariants.{Filter, Handler, Convenience}

-- an event is handled as one of its own type, then of the general type, and then of ANY
abbrev pub types_of : EventKind → List EventKind
types_of kind.Any = kind.Any ∷ []
types_of kind.Mouse = kind.Mouse ∷ kind.Any ∷ []
types_of kind.Key = kind.Key ∷ kind.Any ∷ []
types_of kind.Action = kind.Action ∷ kind.Any ∷ []
types_of kind.KeyPressed = kind.KeyPressed ∷ kind.Key ∷ kind.Any ∷ []
types_of of_mouse = of_mouse ∷ kind.Mouse ∷ kind.Any ∷ []

-- what runs in a phase: the convenience handler of a type runs behind its handlers
abbrev pub parts_of : Phase → List Phase
parts_of Filter = Filter ∷ []
parts_of Handler = Handler ∷ Convenience ∷ []
parts_of Convenience = Convenience ∷ []

-- the place of a type in the list of types
abbrev pub type_number : EventKind → ℕ
type_number kind.Any = 0
type_number kind.Mouse = 1
type_number kind.Key = 2
type_number kind.Action = 3
type_number kind.MouseMoved = 4
type_number kind.MouseDragged = 5
type_number kind.MousePressed = 6
type_number kind.MouseReleased = 7
type_number kind.MouseClicked = 8
type_number kind.MouseEntered = 9
type_number kind.MouseExited = 10
type_number kind.KeyPressed = 11

abbrev pub phase_number : Phase → ℕ
phase_number Filter = 0
phase_number Handler = 1
phase_number Convenience = 2

abbrev pub is_same_type : EventKind → EventKind → Bool
is_same_type one other = type_number one == type_number other

abbrev pub is_same_phase : Phase → Phase → Bool
is_same_phase one other = phase_number one == phase_number other
