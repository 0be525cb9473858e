-- An instance of before by its name: the element `fx:reference` (Introduction to FXML).
use Rattle.std.specs.Prelude.{ℕ, Bool, true, false, List, [], ◌++◌, codes, Option, Some, None, if◌then◌else◌}
use Rattle.std.specs.List.{flat_map}
use Rattle.fx_base.specs.declared.positions.Position.{Position}
use Rattle.fx_doc_grammar.specs.Grammar.{Attr, Head}
use Rattle.fx_scene_acts.specs.declared.acts.Act.{Act}
use Rattle.fx_scene_acts.specs.declared.acts.Deed.TheVariants as deed
use Rattle.fx_scene_bindings.specs.Names.{value_at}
use Rattle.fx_scene_elements.specs.Added.{deed_at, flaw_at}
use Rattle.fx_scene_flaws.specs.declared.flaws.Flaw.{Flaw as Mistake}
use Rattle.fx_scene_flaws.specs.declared.flaws.Flaw.TheVariants as flaw
use Rattle.fx_scene_instances.specs.References.{attribute_flaw}
use Rattle.fx_scene_outline.specs.Pieces.{Piece}
use Rattle.fx_scene_outline.specs.declared.pieces.Seat.{Seat}
use Rattle.fx_scene_outline.specs.declared.pieces.Seat.TheVariants as seat
use Rattle.fx_scene_plan.specs.declared.steps.PlannedStep.{PlannedStep}
use Rattle.fx_scene_read.specs.Opening.{seat_step}
use Rattle.fx_scene_things.specs.Names.{Names, node_called}
use Rattle.fx_scene_things.specs.declared.things.Named.{Named}

abbrev pub step_if : Position → Option PlannedStep → List Act
step_if place None = []
step_if place (Some step) = deed_at place (deed.Step step)

abbrev pub name_acts : Position → Option Mistake → List Act
name_acts place (Some mistake) = flaw_at place mistake
name_acts place None = []

-- a reference has one attribute, the name
abbrev pub reference_attribute : Names → Attr → List Act
reference_attribute names a = name_acts a.position (attribute_flaw names a)

-- only a node may stand there
abbrev pub seated_acts : List Piece → List ℕ → Seat → Position → Option Named → List Act
seated_acts before nodes place spot None = flaw_at spot flaw.Child
seated_acts before nodes place spot (Some known) = step_if spot (seat_step before nodes known.node place)

-- nothing is referred to among definitions
abbrev pub is_closed : Seat → Bool
is_closed seat.Aside = true
is_closed seat.Nowhere = true
is_closed _ = false

abbrev pub named_reference : Names → List Piece → List ℕ → Seat → Head → List ℕ → List Act
named_reference names before nodes place head name =
    flat_map (reference_attribute names) head.attributes
    ++ seated_acts before nodes place head.position (node_called names name)

abbrev pub open_reference : Names → List Piece → List ℕ → Seat → Head → List ℕ → List Act
open_reference names before nodes place head name =
    if is_closed place then flaw_at head.position flaw.Child else named_reference names before nodes place head name

abbrev pub reference_if : Names → List Piece → List ℕ → Seat → Head → Option (List ℕ) → List Act
reference_if names before nodes place head None = flaw_at head.position flaw.Value
reference_if names before nodes place head (Some name) = open_reference names before nodes place head name

-- a reference behind these pieces, which have these names: the node stands where the reference does
unfoldable pub reference_acts : Names → List Piece → List ℕ → Seat → Head → List Act
reference_acts names before nodes place head =
    reference_if names before nodes place head (value_at head.attributes (codes "source"))
