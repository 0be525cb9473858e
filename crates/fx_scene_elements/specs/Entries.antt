-- What an item of a list of texts asks for: a style class or a style sheet of the node (Introduction to FXML).
use Rattle.std.specs.Prelude.{ℕ, List, [], ◌∷◌, ◌++◌, codes, Option, Some, None, if◌then◌else◌}
use Rattle.std.specs.Str.{bytes_eq}
use Rattle.fx_base.specs.declared.positions.Position.{Position}
use Rattle.fx_base.specs.declared.values.Value.TheVariants.{Text}
use Rattle.fx_doc_grammar.specs.Grammar.{Attr, Head}
use Rattle.fx_scene_acts.specs.declared.acts.Act.{Act}
use Rattle.fx_scene_acts.specs.declared.acts.Deed.{Deed}
use Rattle.fx_scene_acts.specs.declared.acts.Deed.TheVariants as deed
use Rattle.fx_scene_elements.specs.Added.{deed_at, flaw_at, node_at}
use Rattle.fx_scene_elements.specs.declared.entries.Entry.{Entry}
use Rattle.fx_scene_elements.specs.declared.entries.Entry.TheVariants as entry
use Rattle.fx_scene_instances.specs.declared.made.Found.{Found}
use Rattle.fx_scene_instances.specs.declared.made.Found.TheVariants.{Whole, Flaw, Node}
use Rattle.fx_scene_instances.specs.declared.made.Made.{Made}
use Rattle.fx_scene_instances.specs.declared.made.Made.TheVariants.{Location, Plain, Track}
use Rattle.fx_scene_plan.specs.declared.steps.PlannedStep.TheVariants as planned
use Rattle.fx_script_commands.specs.Braces.{behind_sign}
use Rattle.fx_text.specs.Characters.{commercial_at}

-- places

-- the place of the attribute of this name, or else another one
abbrev pub place_named : List Attr → List ℕ → Position → Position
place_named [] name other = other
place_named (a ∷ attributes) name other =
    if bytes_eq a.name name then a.position else place_named attributes name other

abbrev pub place_in : Head → List ℕ → Position
place_in head name = place_named head.attributes name head.position

-- where the text of a whole instance stands
abbrev pub text_place : Head → Made → Position
text_place head (Plain content) = place_in head (codes "fx:value")
text_place head (Location name) = place_in head (codes "value")
text_place head (Track track) = head.position

-- a class is asked for where its element stands, and a sheet where its text does
abbrev pub item_place : Entry → Head → Made → Position
item_place entry.Class head made = head.position
item_place entry.Sheet head made = text_place head made

-- deeds

abbrev pub location_or : List ℕ → Option (List ℕ) → List ℕ
location_or text (Some location) = location
location_or text None = text

-- the location that a text is: a sign in front of it is dropped
abbrev pub location_in : List ℕ → List ℕ
location_in text = location_or text (behind_sign commercial_at text)

abbrev pub class_deed : ℕ → List ℕ → Deed
class_deed node name = deed.Step (planned.Class node name)

-- a text is the name of a class, or the location of a sheet
abbrev pub text_deed : Entry → ℕ → List ℕ → Deed
text_deed entry.Class node text = class_deed node text
text_deed entry.Sheet node text = deed.Sheet node (location_in text)

-- the name of a file is that of a class, or the file is a sheet
abbrev pub file_deed : Entry → ℕ → List ℕ → Deed
file_deed entry.Class node name = class_deed node name
file_deed entry.Sheet node name = deed.File node name

-- acts

-- a text, or a location
abbrev pub made_acts : Entry → ℕ → Position → Made → List Act
made_acts kind node place (Plain (Text text)) = deed_at place (text_deed kind node text)
made_acts kind node place (Plain _) = []
made_acts kind node place (Track track) = []
made_acts kind node place (Location name) = deed_at place (file_deed kind node name)

-- a node has room for one class more before anything is wrong within its instance, and for any number of sheets
abbrev pub room_acts : Entry → ℕ → Position → List Act
room_acts entry.Class node place = deed_at place (class_deed node [])
room_acts entry.Sheet node place = []

abbrev pub named_acts : Entry → ℕ → Head → Found → List Act
named_acts kind node head (Whole made) = made_acts kind node (item_place kind head made) made
named_acts kind node head (Flaw mistake spot) = room_acts kind node head.position ++ flaw_at spot mistake
named_acts kind node head (Node spot) = node_at spot

-- what a reference stands for has no room to be looked for where it may not stand there
abbrev pub referred_acts : Entry → ℕ → Position → Found → List Act
referred_acts kind node place (Whole made) = made_acts kind node place made
referred_acts kind node place (Flaw mistake spot) = flaw_at spot mistake
referred_acts kind node place (Node spot) = node_at spot
