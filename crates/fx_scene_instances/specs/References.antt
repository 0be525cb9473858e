-- References to values: the element `fx:reference` where a value or a part of a list is wanted (Introduction to FXML).
use Rattle.std.specs.Prelude.{ℕ, Bool, true, false, List, [], ◌∷◌, codes, Option, Some, None, if◌then◌else◌}
use Rattle.std.specs.Str.{bytes_eq}
use Rattle.fx_base.specs.declared.kinds.Kind.{Kind}
use Rattle.fx_base.specs.declared.kinds.Kind.TheVariants as kind
use Rattle.fx_base.specs.declared.positions.Position.{Position}
use Rattle.fx_doc_grammar.specs.Grammar.{Attr, Head}
use Rattle.fx_scene_bindings.specs.Names.{value_at}
use Rattle.fx_scene_flaws.specs.declared.flaws.Fault.{Fault}
use Rattle.fx_scene_flaws.specs.declared.flaws.Flaw.{Flaw as Mistake}
use Rattle.fx_scene_flaws.specs.declared.flaws.Flaw.TheVariants as flaw
use Rattle.fx_scene_instances.specs.declared.instances.Want.{Want}
use Rattle.fx_scene_instances.specs.declared.instances.Want.TheVariants as want
use Rattle.fx_scene_instances.specs.declared.made.Found.{Found}
use Rattle.fx_scene_instances.specs.declared.made.Found.TheVariants.{Whole, Flaw}
use Rattle.fx_scene_instances.specs.declared.made.Made.TheVariants.{Location, Plain, Track}
use Rattle.fx_scene_things.specs.Names.{Names}
use Rattle.fx_scene_things.specs.declared.things.Thing.{Thing}
use Rattle.fx_scene_things.specs.declared.things.Thing.TheVariants as thing
use Rattle.fx_scene_values.specs.Values.{same_given}
use Rattle.fx_scene_values.specs.declared.values.Given.{Given}
use Rattle.fx_scene_values.specs.declared.values.Given.TheVariants as given

-- nothing may stand there any more, whatever it is
abbrev pub is_closed : Want → Bool
is_closed (want.Another kind) = true
is_closed want.Defined = true
is_closed want.Nothing = true
is_closed _ = false

-- something that isn't whole yet isn't there
abbrev pub open_flaw : Thing → Option Mistake
open_flaw thing.Open = Some flaw.Name
open_flaw _ = None

abbrev pub name_flaw : Option Thing → Option Mistake
name_flaw None = Some flaw.Name
name_flaw (Some one) = open_flaw one

abbrev pub attribute_flaw : Names → Attr → Option Mistake
attribute_flaw names a =
    if bytes_eq a.name (codes "source") then name_flaw (names a.value) else Some flaw.Property

abbrev pub fault_or : Attr → Option Mistake → Option Fault → Option Fault
fault_or a (Some mistake) others = Some (record { flaw = mistake; place = a.position })
fault_or a None others = others

-- a reference has one attribute, the name of something
abbrev pub attributes_fault : Names → List Attr → Option Fault
attributes_fault names [] = None
attributes_fault names (a ∷ attributes) = fault_or a (attribute_flaw names a) (attributes_fault names attributes)

-- what it stands for

abbrev pub given_found : Position → Given → Found
given_found place (given.Value content) = Whole (Plain content)
given_found place (given.Flaw mistake) = Flaw mistake place

abbrev pub value_thing : Kind → Position → Thing → Found
value_thing kind place (thing.Value content defined) = given_found place (same_given kind content)
value_thing kind place _ = Flaw flaw.Child place

-- a style class is a text, or a location
abbrev pub name_thing : Position → Thing → Found
name_thing place (thing.Location name) = Whole (Location name)
name_thing place one = value_thing kind.Text place one

abbrev pub column_thing : Position → Thing → Found
column_thing place (thing.Column track) = Whole (Track track)
column_thing place _ = Flaw flaw.Child place

abbrev pub row_thing : Position → Thing → Found
row_thing place (thing.Row track) = Whole (Track track)
row_thing place _ = Flaw flaw.Child place

abbrev pub wanted_thing : Want → Position → Thing → Found
wanted_thing (want.Value kind) place one = value_thing kind place one
wanted_thing want.Name place one = name_thing place one
wanted_thing want.Column place one = column_thing place one
wanted_thing want.Row place one = row_thing place one
wanted_thing _ place one = Flaw flaw.Child place

abbrev pub thing_found : Want → Position → Option Thing → Found
thing_found wanted place None = Flaw flaw.Name place
thing_found wanted place (Some one) = wanted_thing wanted place one

abbrev pub found_unless : Names → Want → Head → List ℕ → Option Fault → Found
found_unless names wanted head name (Some fault) = Flaw fault.flaw fault.place
found_unless names wanted head name None = thing_found wanted head.position (names name)

abbrev pub open_reference : Names → Want → Head → List ℕ → Found
open_reference names wanted head name =
    if is_closed wanted then Flaw flaw.Child head.position
    else found_unless names wanted head name (attributes_fault names head.attributes)

abbrev pub reference_if : Names → Want → Head → Option (List ℕ) → Found
reference_if names wanted head None = Flaw flaw.Value head.position
reference_if names wanted head (Some name) = open_reference names wanted head name

-- what a reference stands for where this is wanted, without a look at its content
abbrev pub referred : Names → Want → Head → Found
referred names wanted head = reference_if names wanted head (value_at head.attributes (codes "source"))
