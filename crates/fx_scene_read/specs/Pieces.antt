-- What a piece of a document asks for, in the order of work: an element with its own name first, then its attributes
-- from left to right.
use Rattle.std.specs.Prelude.{ℕ, Bool, true, false, ◌||◌, List, [], ◌∷◌, ◌++◌, codes, Option, Some, None, Result, Ok, Err, if◌then◌else◌}
use Rattle.std.specs.List.{flat_map}
use Rattle.fx_base.specs.declared.positions.Position.{Position}
use Rattle.fx_doc_grammar.specs.Grammar.{Attr, Head, Nodes}
use Rattle.fx_kinds.specs.declared.classes.Class.{Class}
use Rattle.fx_scene_acts.specs.declared.acts.Act.{Act}
use Rattle.fx_scene_acts.specs.declared.acts.Deed.TheVariants as deed
use Rattle.fx_scene_bindings.specs.Names.{instance_names}
use Rattle.fx_scene_elements.specs.Added.{acts_at, deed_at, flaw_at, flaw_in}
use Rattle.fx_scene_elements.specs.Elements.{Told, element_told, told}
use Rattle.fx_scene_elements.specs.declared.lanes.Lane.{Lane}
use Rattle.fx_scene_flaws.specs.declared.flaws.Flaw.{Flaw as Mistake}
use Rattle.fx_scene_flaws.specs.declared.flaws.Flaw.TheVariants as flaw
use Rattle.fx_scene_instances.specs.Instances.{entered}
use Rattle.fx_scene_instances.specs.Needs.{has_attribute}
use Rattle.fx_scene_instances.specs.declared.instances.Want.TheVariants as want
use Rattle.fx_scene_instances.specs.declared.made.Found.TheVariants as found
use Rattle.fx_scene_literals.specs.Literals as literal
use Rattle.fx_scene_literals.specs.Literals.{whole}
use Rattle.fx_scene_names.specs.Names.{class_named}
use Rattle.fx_scene_outline.specs.Pieces.{Piece, Include, Instance, Property, Reference, Value, Wrong}
use Rattle.fx_scene_outline.specs.declared.pieces.Seat.{Seat}
use Rattle.fx_scene_plan.specs.declared.steps.PlannedStep.{PlannedStep}
use Rattle.fx_scene_plan.specs.declared.steps.PlannedStep.TheVariants as planned
use Rattle.fx_scene_read.specs.Acting.{attribute_deeds, root_deeds}
use Rattle.fx_scene_read.specs.References.{reference_acts, step_if}
use Rattle.fx_scene_read.specs.Opening.{node_at, opening_flaw, seat_step}
use Rattle.fx_scene_things.specs.Names.{Names}
use Rattle.fx_scene_values.specs.Scopes.{Scope}

-- a node is made, and stands where it stands before it has anything
abbrev pub opening_acts : Position → Class → Option PlannedStep → List Act
opening_acts place class step = deed_at place (deed.Step (planned.Node class)) ++ step_if place step

-- an attribute, where it stands
abbrev pub attribute_acts : Scope → Names → Class → ℕ → Bool → Attr → List Act
attribute_acts scope names class node given a = acts_at a.position (attribute_deeds scope names class node given a)

abbrev pub gives_id : List Attr → Bool
gives_id attributes = has_attribute attributes (codes "id")

abbrev pub attributes_acts : Scope → Names → Class → ℕ → List Attr → List Act
attributes_acts scope names class node attributes =
    flat_map (attribute_acts scope names class node (gives_id attributes)) attributes

-- an instance of a class behind these pieces, where its node is made, or what is wrong with it
abbrev pub opened_acts : Scope → Names → List Piece → List ℕ → ℕ → Seat → Head → Class → Option Mistake → List Act
opened_acts scope names before nodes node seat head class (Some mistake) = flaw_at head.position mistake
opened_acts scope names before nodes node seat head class None =
    opening_acts head.position class (seat_step before nodes node seat)
    ++ attributes_acts scope names class node head.attributes

abbrev pub class_acts : Scope → Names → List Piece → List ℕ → ℕ → Seat → Head → Option Class → List Act
class_acts scope names before nodes node seat head None = flaw_at head.position flaw.Class
class_acts scope names before nodes node seat head (Some class) =
    opened_acts scope names before nodes node seat head class (opening_flaw scope.imports node seat head class)

abbrev pub instance_acts : Scope → Names → List Piece → List ℕ → ℕ → Seat → Head → List Act
instance_acts scope names before nodes node seat head =
    class_acts scope names before nodes node seat head (class_named head.name)

-- a value in a definition
abbrev pub entered_value : Scope → Names → Head → Nodes → Result Class Mistake → literal.Told
entered_value scope names head content (Err mistake) = literal.told (found.Flaw mistake head.position) names
entered_value scope names head content (Ok class) = whole scope names head content class true

abbrev pub value_told : Scope → Names → Head → Nodes → literal.Told
value_told scope names head content = entered_value scope names head content (entered scope want.Defined head)

abbrev pub defined : literal.Told → Told
defined t = told (flaw_in t.found) [] t.names

-- One piece behind others, with the ordinals that they have, which is the node of this ordinal where it is an instance:
-- what it asks for, the constraints of grids that it adds, and the names that are known behind it. What an include asks
-- for is told where its document is read.
unfoldable pub piece_told : Scope → Names → List Lane → List Piece → List ℕ → ℕ → Piece → Told
piece_told scope names lanes before nodes node (Instance seat head) =
    told (instance_acts scope names before nodes node seat head) [] (instance_names names node head)
piece_told scope names lanes before nodes node (Reference seat head) =
    told (reference_acts names before nodes seat head) [] names
piece_told scope names lanes before nodes node (Include seat head) = told [] [] names
piece_told scope names lanes before nodes node (Value head content) = defined (value_told scope names head content)
piece_told scope names lanes before nodes node (Property owner class head content) =
    element_told scope names lanes owner (node_at owner nodes) class head content
piece_told scope names lanes before nodes node (Wrong mistake place) = told (flaw_at place mistake) [] names

-- What the attributes of an include ask for, of the root of its document, which is the node of this ordinal and of this
-- class, and has an id already or not.

abbrev pub root_attribute : Scope → Names → Class → ℕ → Bool → Attr → List Act
root_attribute scope names class node given a = acts_at a.position (root_deeds scope names class node given a)

unfoldable pub root_acts : Scope → Names → Class → ℕ → Bool → List Attr → List Act
root_acts scope names class node has_id attributes =
    flat_map (root_attribute scope names class node (has_id || gives_id attributes)) attributes
