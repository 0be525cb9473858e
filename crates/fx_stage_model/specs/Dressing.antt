-- Lines on what a node has of its own: `class`, `unclass`, `style`, `pseudo`, `constrain`, `handle` and `filter`.
use Rattle.std.specs.Prelude.{ℕ, ◌==◌, Bool, true, false, not, ◌&&◌, ◌||◌, nat_le, nat_lt, List, [], ◌∷◌, ◌++◌, codes, length, filter, map, Option, Some, None, Result, Ok, Err, is_some, if◌then◌else◌}
use Rattle.std.specs.List.{find as first_of, list_any}
use Rattle.std.specs.Option.{option_map, option_and_then, option_map_or}
use Rattle.std.specs.Str.{bytes_eq}
use Rattle.fx_base.specs.Positions.{start}
use Rattle.fx_base.specs.declared.keys.NodeKey.{NodeKey}
use Rattle.fx_base.specs.declared.positions.Place.{Place}
use Rattle.fx_base.specs.declared.values.Value.{Value}
use Rattle.fx_css.specs.Numbered.{numbered_marks}
use Rattle.fx_css.specs.Pieces.{kept_in, past_declarations, warnings_in}
use Rattle.fx_css.specs.Sheets.{places_of, style_rule}
use Rattle.fx_css_marks.specs.Scanning.{Plain, scanned}
use Rattle.fx_css_marks.specs.declared.marks.Mark.{Mark}
use Rattle.fx_css_types.specs.declared.sheets.Sheet.{Sheet}
use Rattle.fx_events.specs.declared.kinds.EventKind.{EventKind}
use Rattle.fx_events.specs.declared.kinds.EventKind.TheVariants as event
use Rattle.fx_events.specs.declared.kinds.Phase.{Phase}
use Rattle.fx_events.specs.declared.registrations.Registration.{Registration}
use Rattle.fx_kinds.specs.declared.facts.Constraint.{Constraint}
use Rattle.fx_kinds.specs.Constraints.{ConstraintEntry, constraint_named, is_in_range}
use Rattle.fx_look.specs.Readings.{value_at}
use Rattle.fx_stage_types.specs.declared.edits.NodeEdit.{NodeEdit}
use Rattle.fx_stage_types.specs.declared.edits.NodeEdit.TheVariants as edit
use Rattle.fx_stage_types.specs.declared.node_data.NodeData.{NodeData}
use Rattle.fx_stage_types.specs.Edits.{has_word}
use Rattle.fx_stage_types.specs.Tables.{NodeTable, data_of}
use Rattle.fx_stage_types.specs.declared.refusals.Refusal.{Refusal}
use Rattle.fx_stage_types.specs.declared.refusals.Refusal.TheVariants as word
use Rattle.fx_stage_model.specs.Answers.{Taken, and_then, or_word, quiet, silently, unless}
use Rattle.fx_stage_model.specs.Graphs.{edited_at, handler_refusal, registration, with_handler}
use Rattle.fx_stage_model.specs.Looking.{find_node}
use Rattle.fx_stage_model.specs.World.{World, with_graph}

-- what a node has of its own is edited
abbrev pub edited_in : NodeKey → NodeEdit → World → World
edited_in key change world = with_graph (edited_at key change world.graph) world

-- style classes

abbrev pub classes_in : Option NodeData → List (List ℕ)
classes_in None = []
classes_in (Some node) = node.classes

abbrev pub is_full_of_classes : NodeTable → NodeKey → Bool
is_full_of_classes table key = nat_le 64 (length (classes_in (data_of table key)))

unfoldable pub class : List (List ℕ) → List ℕ → World → Result Taken Refusal
class path name world =
    and_then (find_node world path) (λ (key : NodeKey).
    unless (is_full_of_classes world.graph.table key) word.Full
    (silently (edited_in key (edit.AddClass name) world)))

unfoldable pub unclass : List (List ℕ) → List ℕ → World → Result Taken Refusal
unclass path name world =
    and_then (find_node world path) (λ (key : NodeKey). silently (edited_in key (edit.RemoveClass name) world))

-- the inline style

-- the sheet of one rule that a text is read as
abbrev pub sheet_of_marks : List Mark → Sheet
sheet_of_marks marks =
    record {
      rules = style_rule (numbered_marks marks) ∷ [];
      warnings = places_of 0 marks (warnings_in (numbered_marks marks));
    }

abbrev pub style_sheet : List ℕ → Sheet
style_sheet text = sheet_of_marks (scanned Plain start text)

abbrev pub is_past : List ℕ → Bool
is_past [] = false
is_past (first ∷ rest) = true

-- the text is longer than any script, or a declaration of it is past a limit
abbrev pub is_past_limit : List ℕ → Bool
is_past_limit text =
    nat_lt 4194304 (length text) || is_past (past_declarations 0 (kept_in (numbered_marks (scanned Plain start text))))

abbrev pub styled : NodeKey → Sheet → World → Taken
styled key sheet world =
    record {
      made = edited_in key (edit.SetInline sheet) world;
      world = edited_in key (edit.SetInline sheet) world;
      value = None;
      notices = quiet;
      warnings = sheet.warnings;
      cost = 0;
    }

unfoldable pub style : List (List ℕ) → List ℕ → World → Result Taken Refusal
style path text world =
    and_then (find_node world path) (λ (key : NodeKey).
    unless (is_past_limit text) word.Full (Ok (styled key (style_sheet text) world)))

-- pseudo-classes

-- those that follow the pointer, the button, the focus and `disable`
abbrev pub own_pseudos : List (List ℕ)
own_pseudos = codes "hover" ∷ codes "focused" ∷ codes "pressed" ∷ codes "disabled" ∷ []

abbrev pub pseudos_in : Option NodeData → List (List ℕ)
pseudos_in None = []
pseudos_in (Some node) = node.pseudos

abbrev pub is_on : List ℕ → Bool
is_on state = bytes_eq state (codes "on")

-- 64 others are set already
abbrev pub is_full_of_pseudos : NodeTable → NodeKey → List ℕ → Bool
is_full_of_pseudos table key name =
    not (has_word (pseudos_in (data_of table key)) name) && nat_le 64 (length (pseudos_in (data_of table key)))

unfoldable pub pseudo : List (List ℕ) → List ℕ → List ℕ → World → Result Taken Refusal
pseudo path name state world =
    and_then (find_node world path) (λ (key : NodeKey).
    unless (has_word own_pseudos name) word.ReadOnly
    (if is_on state
    then unless (is_full_of_pseudos world.graph.table key name) word.Full
    (silently (edited_in key (edit.AddPseudo name) world))
    else silently (edited_in key (edit.RemovePseudo name) world)))

-- constraints

-- the value that a text gives a constraint
abbrev pub constraint_at : ConstraintEntry → List ℕ → Option Value
constraint_at entry text =
    option_and_then (λ (value : Value). if is_in_range entry.range value then Some value else None)
    (value_at entry.kind text)

-- what a text makes of the constraint of this name: without a text it goes
abbrev pub constraint_edit : List ℕ → ConstraintEntry → List ℕ → Option NodeEdit
constraint_edit name entry [] = Some (edit.RemoveConstraint name)
constraint_edit name entry (first ∷ rest) =
    option_map (λ (value : Value). edit.PutConstraint (record { name = name; value = value }))
    (constraint_at entry (first ∷ rest))

unfoldable pub constrain : List (List ℕ) → List ℕ → List ℕ → World → Result Taken Refusal
constrain path name text world =
    and_then (find_node world path) (λ (key : NodeKey).
    and_then (or_word word.Property (constraint_named name)) (λ (entry : ConstraintEntry).
    and_then (or_word word.Value (constraint_edit name entry text)) (λ (change : NodeEdit).
    silently (edited_in key change world))))

-- handlers

-- the name of a type's constant
abbrev pub constant_of : EventKind → List ℕ
constant_of event.Any = codes "ANY"
constant_of event.Mouse = codes "MOUSE"
constant_of event.Key = codes "KEY"
constant_of event.Action = codes "ACTION"
constant_of event.MouseMoved = codes "MOUSE_MOVED"
constant_of event.MouseDragged = codes "MOUSE_DRAGGED"
constant_of event.MousePressed = codes "MOUSE_PRESSED"
constant_of event.MouseReleased = codes "MOUSE_RELEASED"
constant_of event.MouseClicked = codes "MOUSE_CLICKED"
constant_of event.MouseEntered = codes "MOUSE_ENTERED"
constant_of event.MouseExited = codes "MOUSE_EXITED"
constant_of event.KeyPressed = codes "KEY_PRESSED"

abbrev pub event_kinds : List EventKind
event_kinds = event.Any ∷ event.Mouse ∷ event.Key ∷ event.Action ∷ event.MouseMoved ∷ event.MouseDragged
    ∷ event.MousePressed ∷ event.MouseReleased ∷ event.MouseClicked ∷ event.MouseEntered ∷ event.MouseExited
    ∷ event.KeyPressed ∷ []

-- the type whose constant has this name
abbrev pub event_named : List ℕ → Option EventKind
event_named name = first_of (λ (on : EventKind). bytes_eq (constant_of on) name) event_kinds

-- a further registration, by the handlers' own refusal
abbrev pub registered : NodeKey → Registration → World → Result Taken Refusal
registered key new world =
    unless (is_some (handler_refusal key new world.graph)) word.Full
    (silently (with_graph (with_handler key new world.graph) world))

-- `handle` and `filter`
unfoldable pub handle : Phase → List (List ℕ) → List ℕ → List ℕ → World → Result Taken Refusal
handle phase path name action world =
    and_then (find_node world path) (λ (key : NodeKey).
    and_then (or_word word.Value (event_named name)) (λ (on : EventKind).
    registered key (registration on phase action) world))
