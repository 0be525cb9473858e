-- Values that are written as instances: attributes from left to right, then property elements, each of which holds one
-- value for a field, and definitions. A name is known from where what has it is whole.
use Rattle.std.specs.Prelude.{ℕ, pos, not, Bool, true, false, ◌&&◌, ◌||◌, List, [], ◌∷◌, codes, Option, Some, None, Result, Ok, Err, if◌then◌else◌}
use Rattle.std.specs.Str.{bytes_eq}
use Rattle.fx_base.specs.declared.facts.Track.{Track as Lane}
use Rattle.fx_base.specs.declared.kinds.Kind.{Kind}
use Rattle.fx_base.specs.declared.positions.Position.{Position}
use Rattle.fx_base.specs.declared.values.Value.{Value as Content}
use Rattle.fx_base.specs.declared.values.Value.TheVariants as value
use Rattle.fx_doc_grammar.specs.Grammar.{Attr, Head, Nodes, Nothing, Letters, Node as Child}
use Rattle.fx_doc_grammar.specs.Machine.{is_nothing}
use Rattle.fx_kinds.specs.declared.classes.Class.{Class}
use Rattle.fx_kinds.specs.declared.classes.Class.TheVariants as class
use Rattle.fx_kinds.specs.Classes.{value_kind}
use Rattle.fx_scene_bindings.specs.Names.{value_at}
use Rattle.fx_scene_flaws.specs.declared.flaws.Fault.{Fault}
use Rattle.fx_scene_flaws.specs.declared.flaws.Flaw.{Flaw as Mistake}
use Rattle.fx_scene_flaws.specs.declared.flaws.Flaw.TheVariants as flaw
use Rattle.fx_scene_instances.specs.Fields.{constant_named, field_kind, field_named, first_made, with_value}
use Rattle.fx_scene_instances.specs.Instances.{entered, is_define, is_include, is_reference}
use Rattle.fx_scene_instances.specs.Needs.{is_location}
use Rattle.fx_scene_instances.specs.References.{referred}
use Rattle.fx_scene_instances.specs.declared.fields.Field.{Field}
use Rattle.fx_scene_instances.specs.declared.instances.Want.{Want}
use Rattle.fx_scene_instances.specs.declared.instances.Want.TheVariants as want
use Rattle.fx_scene_instances.specs.declared.made.Found.{Found}
use Rattle.fx_scene_instances.specs.declared.made.Found.TheVariants.{Whole, Flaw, Node}
use Rattle.fx_scene_instances.specs.declared.made.Made.{Made}
use Rattle.fx_scene_instances.specs.declared.made.Made.TheVariants.{Location, Plain, Track}
use Rattle.fx_scene_literals.specs.declared.parts.Part.{Part}
use Rattle.fx_scene_literals.specs.declared.parts.Part.TheVariants.{Closed, Defined, Fields, One}
use Rattle.fx_scene_names.specs.Names.{is_instance, is_static, lacks_owner}
use Rattle.fx_scene_outline.specs.Nodes.{is_defined_node}
use Rattle.fx_scene_things.specs.Names.{Names, has_name, with_name}
use Rattle.fx_scene_things.specs.Settled.{names_behind}
use Rattle.fx_scene_things.specs.declared.things.Thing.{Thing}
use Rattle.fx_scene_things.specs.declared.things.Thing.TheVariants as thing
use Rattle.fx_scene_values.specs.Forms.{form_of}
use Rattle.fx_scene_values.specs.Scopes.{Scope}
use Rattle.fx_scene_values.specs.Values.{literal, path_in, value_in}
use Rattle.fx_scene_values.specs.declared.values.Given.{Given}
use Rattle.fx_scene_values.specs.declared.values.Given.TheVariants as given
use Rattle.fx_text.specs.Classes.{is_identifier}

-- what is made, or why reading stops, and the names that are known then
pub record Told : Type 0 where
  pub found : Found
  pub names : Names

abbrev pub told : Found → Names → Told
told found names = record { found = found; names = names }

abbrev pub found_then : Found → Names → (Made → Names → Told) → Told
found_then (Whole made) names next = next made names
found_then (Flaw mistake place) names next = told (Flaw mistake place) names
found_then (Node place) names next = told (Node place) names

-- reading on, unless something is wrong, or a node is read first
abbrev pub told_then : Told → (Made → Names → Told) → Told
told_then t next = found_then t.found t.names next

-- attributes, from left to right

-- a value at a place, or what is wrong there
abbrev pub given_then : Position → Given → (Content → Made) → Found
given_then place (given.Value content) next = Whole (next content)
given_then place (given.Flaw mistake) next = Flaw mistake place

abbrev pub field_after : Scope → Names → Class → Field → Attr → Made → Found
field_after scope names class field a made =
    given_then a.position (value_in scope names (field_kind class field) (form_of a.value))
    (λ content. with_value field content made)

-- the text of a value that has a kind; the text stands for itself
abbrev pub text_given : Option Kind → List ℕ → Given
text_given None text = given.Flaw flaw.Property
text_given (Some kind) text = literal kind text

abbrev pub other_given : Class → Attr → Given
other_given class a =
    if bytes_eq a.name (codes "fx:value") then text_given (value_kind class) a.value
    else (if bytes_eq a.name (codes "fx:constant") then constant_named class a.value else given.Flaw flaw.Property)

-- the name of a font means nothing here
abbrev pub is_font : Class → Bool
is_font class.Font = true
is_font _ = false

abbrev pub other_after : Class → Attr → Found
other_after class a = given_then a.position (other_given class a) (λ content. Plain content)

abbrev pub location_found : Position → Given → Found
location_found place (given.Value (value.Text name)) = Whole (Location name)
location_found place (given.Value other) = Flaw flaw.Value place
location_found place (given.Flaw mistake) = Flaw mistake place

abbrev pub location_after : Scope → Names → Attr → Found
location_after scope names a =
    if bytes_eq a.name (codes "value") then location_found a.position (path_in scope names (form_of a.value))
    else Flaw flaw.Property a.position

abbrev pub plain_after : Scope → Names → Class → Attr → Found
plain_after scope names class a =
    if is_location class then location_after scope names a else other_after class a

abbrev pub unnamed_after : Scope → Names → Class → Attr → Made → Found
unnamed_after scope names class a made =
    if is_font class && bytes_eq a.name (codes "name") then Whole made else plain_after scope names class a

abbrev pub after_if : Scope → Names → Class → Attr → Made → Option Field → Found
after_if scope names class a made (Some field) = field_after scope names class field a made
after_if scope names class a made None = unnamed_after scope names class a made

-- what is made behind an attribute that gives no name
abbrev pub made_after : Scope → Names → Class → Attr → Made → Found
made_after scope names class a made = after_if scope names class a made (field_named class a.name)

-- a name is an identifier that nothing before has; it stands for nothing until what has it is whole
abbrev pub id_told : Names → Attr → Made → Told
id_told names a made =
    if not (is_identifier a.value) then told (Flaw flaw.Value a.position) names
    else (if has_name names a.value then told (Flaw flaw.Duplicate a.position) names
    else told (Whole made) (with_name names a.value thing.Open))

abbrev pub attribute_told : Scope → Class → Attr → Made → Names → Told
attribute_told scope class a made names =
    if bytes_eq a.name (codes "fx:id") then id_told names a made
    else told (made_after scope names class a made) names

abbrev pub made_from : Scope → Class → Made → Names → List Attr → Told
made_from scope class made names [] = told (Whole made) names
made_from scope class made names (a ∷ attributes) =
    told_then (attribute_told scope class a made names) (λ next known. made_from scope class next known attributes)

-- content

-- A text where one value is wanted stands for itself.
abbrev pub text_if : Bool → Position → Given → Found
text_if first spot (given.Value content) = if first then Whole (Plain content) else Flaw flaw.Child spot
text_if first spot (given.Flaw mistake) = Flaw mistake spot

abbrev pub letters : Part → Bool → List ℕ → Position → Found
letters (One kind) first text spot = text_if first spot (literal kind text)
letters _ first text spot = Flaw flaw.Child spot

-- the reader of what stands in an element
abbrev pub Inner : Type 0
Inner = Part → Made → Names → Told

abbrev pub track_thing : Class → Lane → Thing
track_thing class.RowConstraints track = thing.Row track
track_thing _ track = thing.Column track

-- what the name of a whole value stands for, which stands right in a definition or not
abbrev pub thing_of : Class → Bool → Made → Thing
thing_of class defined (Plain content) = thing.Value content defined
thing_of class defined (Track track) = track_thing class track
thing_of class defined (Location name) = thing.Location name

abbrev pub named_if : Names → Thing → Option (List ℕ) → Names
named_if names one None = names
named_if names one (Some name) = with_name names name one

abbrev pub whole_told : List Attr → Class → Bool → Made → Names → Told
whole_told attributes class defined made names =
    told (Whole made) (named_if names (thing_of class defined made) (value_at attributes (codes "fx:id")))

abbrev pub whole_then : List Attr → Class → Bool → Told → Told
whole_then attributes class defined t = told_then t (λ made known. whole_told attributes class defined made known)

abbrev pub inside_then : Inner → Class → Told → Told
inside_then inner class t = told_then t (λ made known. inner (Fields class) made known)

-- an instance of a class by its attributes, then by its content, and then by its name
abbrev pub class_told : Scope → Inner → Names → Head → Class → Bool → Told
class_told scope inner names head class defined =
    whole_then head.attributes class defined
    (inside_then inner class (made_from scope class (first_made class) names head.attributes))

abbrev pub entered_told : Scope → Inner → Names → Head → Bool → Result Class Mistake → Told
entered_told scope inner names head defined (Err mistake) = told (Flaw mistake head.position) names
entered_told scope inner names head defined (Ok class) = class_told scope inner names head class defined

abbrev pub value_told : Scope → Inner → Names → Want → Bool → Head → Told
value_told scope inner names wanted defined head =
    entered_told scope inner names head defined (entered scope wanted head)

-- an element that may have no content
abbrev pub closed_then : Inner → Told → Told
closed_then inner t = told_then t (λ made known. inner Closed made known)

abbrev pub reference_told : Inner → Names → Want → Head → Told
reference_told inner names wanted head = closed_then inner (told (referred names wanted head) names)

abbrev pub want_of : Kind → Bool → Want
want_of kind first = if first then want.Value kind else want.Another kind

-- one value, as an instance or a reference
abbrev pub one_told : Scope → Inner → Names → Want → Head → Told
one_told scope inner names wanted head =
    if is_reference head.name then reference_told inner names wanted head
    else value_told scope inner names wanted false head

abbrev pub nothing_flaw : Result Class Mistake → Mistake
nothing_flaw (Err mistake) = mistake
nothing_flaw (Ok class) = flaw.Child

abbrev pub is_object : List ℕ → Bool
is_object name = is_instance name || (is_include name || is_reference name)

abbrev pub static_flaw : Scope → List ℕ → Mistake
static_flaw scope name = if lacks_owner scope.imports name then flaw.Import else flaw.Property

abbrev pub field_if : Option Field → Result Field Mistake
field_if None = Err flaw.Property
field_if (Some field) = Ok field

-- the field that a property element gives a value; no object may stand beside it
unfoldable pub field_at : Scope → Class → Head → Result Field Mistake
field_at scope class head =
    if is_object head.name then Err (nothing_flaw (entered scope want.Nothing head))
    else (if is_static head.name then Err (static_flaw scope head.name) else field_if (field_named class head.name))

abbrev pub no_value : Made
no_value = Plain (value.Int (pos 0))

abbrev pub with_made : Field → Made → Made → Made
with_made field (Plain content) made = with_value field content made
with_made field (Track track) made = made
with_made field (Location name) made = made

abbrev pub with_found : Field → Found → Made → Found
with_found field (Whole content) made = Whole (with_made field content made)
with_found field (Flaw mistake place) made = Flaw mistake place
with_found field (Node place) made = Node place

abbrev pub with_told : Field → Told → Made → Told
with_told field t made = told (with_found field t.found made) t.names

abbrev pub held_if : Inner → Names → Class → Field → Made → Option Fault → Told
held_if inner names class field made (Some fault) = told (Flaw fault.flaw fault.place) names
held_if inner names class field made None =
    with_told field (inner (One (field_kind class field)) no_value names) made

abbrev pub fault_at : Mistake → Position → Fault
fault_at mistake place = record { flaw = mistake; place = place }

abbrev pub empty_fault : Position → Bool → Option Fault
empty_fault place empty = if empty then Some (fault_at flaw.Value place) else None

-- a property element that holds one value has no attributes, and holds something
abbrev pub bare_fault : Position → List Attr → Bool → Option Fault
bare_fault place [] empty = empty_fault place empty
bare_fault place (a ∷ others) empty = Some (fault_at flaw.Property a.position)

abbrev pub field_held : Inner → Names → Class → Made → Head → Bool → Result Field Mistake → Told
field_held inner names class made head empty (Err mistake) = told (Flaw mistake head.position) names
field_held inner names class made head empty (Ok field) =
    held_if inner names class field made (bare_fault head.position head.attributes empty)

-- a definition within a value has no attributes
abbrev pub define_by : Inner → Names → Made → List Attr → Told
define_by inner names made [] = inner Defined made names
define_by inner names made (a ∷ others) = told (Flaw flaw.Property a.position) names

-- a property element or a definition within a value
abbrev pub field_told : Scope → Inner → Names → Class → Made → Head → Bool → Told
field_told scope inner names class made head empty =
    if is_define head.name then define_by inner names made head.attributes
    else field_held inner names class made head empty (field_at scope class head)

abbrev pub kept : Made → Found → Found
kept made (Whole other) = Whole made
kept made (Flaw mistake place) = Flaw mistake place
kept made (Node place) = Node place

abbrev pub kept_told : Made → Told → Told
kept_told made t = told (kept made t.found) t.names

-- a node that was read is passed over, and the names behind it are known; any other stops the reading
abbrev pub settled_told : Made → Names → Position → Option Names → Told
settled_told made names place None = told (Node place) names
settled_told made names place (Some known) = told (Whole made) known

-- a value in a definition within a value
abbrev pub defined_value : Scope → Inner → Made → Names → Head → Told
defined_value scope inner made names head = kept_told made (value_told scope inner names want.Defined true head)

abbrev pub defined_told : Scope → Inner → Made → Names → Head → Told
defined_told scope inner made names head =
    if is_defined_node head
    then settled_told made names head.position (names_behind scope.settled head.position)
    else defined_value scope inner made names head

abbrev pub child_told : Scope → Part → Bool → Made → Names → Inner → Head → Bool → Told
child_told scope (One kind) first made names inner head empty =
    one_told scope inner names (want_of kind first) head
child_told scope (Fields class) first made names inner head empty =
    field_told scope inner names class made head empty
child_told scope Defined first made names inner head empty = defined_told scope inner made names head
child_told scope Closed first made names inner head empty = told (Flaw flaw.Child head.position) names

abbrev pub letters_told : Part → Bool → List ℕ → Position → Names → Told
letters_told part first text spot names = told (letters part first text spot) names

-- what is made behind some content, or what is wrong with it
unfoldable pub read_in : Scope → Part → Made → Names → Nodes → Told
read_in scope part made names Nothing = told (Whole made) names
read_in scope part made names (Letters before text spot) =
    told_then (read_in scope part made names before)
    (λ now known. letters_told part (is_nothing before) text spot known)
read_in scope part made names (Child before head inner) =
    told_then (read_in scope part made names before) (λ now known.
    child_told scope part (is_nothing before) now known (λ p m k. read_in scope p m k inner) head (is_nothing inner))

-- an instance of a class with its content, which stands right in a definition or not
unfoldable pub whole : Scope → Names → Head → Nodes → Class → Bool → Told
whole scope names head content class defined =
    class_told scope (λ p m k. read_in scope p m k content) names head class defined

-- the content of an element that may have none
unfoldable pub closed : Scope → Names → Nodes → Told
closed scope names content = read_in scope Closed no_value names content
