-- Values by their kinds, and what is wrong with a text that gives none.
use Rattle.std.specs.Prelude.{ℕ, nat_lt, List, length, Option, Some, None, if◌then◌else◌}
use Rattle.std.specs.Fmt.{signed_decimal}
use Rattle.std.specs.Str.{chars}
use Rattle.fx_base.specs.Printing.{kind_of, truth_text}
use Rattle.fx_base.specs.declared.kinds.Kind.{Kind}
use Rattle.fx_base.specs.declared.kinds.Kind.TheVariants as kind
use Rattle.fx_base.specs.declared.values.Value.{Value as Content}
use Rattle.fx_base.specs.declared.values.Value.TheVariants as value
use Rattle.fx_graph_model.specs.Equality.{same_kind}
use Rattle.fx_look.specs.Readings.{value_at}
use Rattle.fx_scene_flaws.specs.declared.flaws.Flaw.TheVariants as flaw
use Rattle.fx_scene_places.specs.Places.{joined}
use Rattle.fx_scene_plan.specs.declared.steps.PlannedProperty.{PlannedProperty}
use Rattle.fx_scene_things.specs.Names.{Names}
use Rattle.fx_scene_things.specs.declared.things.Thing.{Thing}
use Rattle.fx_scene_things.specs.declared.things.Thing.TheVariants as thing
use Rattle.fx_scene_values.specs.Forms as form
use Rattle.fx_scene_values.specs.Forms.{Form}
use Rattle.fx_scene_values.specs.Scopes.{Scope}
use Rattle.fx_scene_values.specs.declared.values.Given.{Given}
use Rattle.fx_scene_values.specs.declared.values.Given.TheVariants.{Value, Flaw}

abbrev pub given_if : Option Content → Given
given_if (Some content) = Value content
given_if None = Flaw flaw.Value

-- the value of the kind that a text spells
unfoldable pub literal : Kind → List ℕ → Given
literal kind text = given_if (value_at kind text)

-- a text has at most 4,096 characters
unfoldable pub text_given : List ℕ → Given
text_given text = if nat_lt 4096 (length (chars text)) then Flaw flaw.Value else Value (value.Text text)

-- values by names

-- a value of the kind itself
abbrev pub same_given : Kind → Content → Given
same_given kind content = if same_kind (kind_of content) kind then Value content else Flaw flaw.Kinds

abbrev pub text_from : Content → Given
text_from (value.Int number) = text_given (signed_decimal number)
text_from (value.Bool truth) = text_given (truth_text truth)
text_from content = same_given kind.Text content

-- a number or a truth is printed where a text is wanted
abbrev pub given_as : Kind → Content → Given
given_as kind.Text content = text_from content
given_as kind content = same_given kind content

abbrev pub named_thing : Kind → Thing → Given
named_thing kind (thing.Value content defined) = given_as kind content
named_thing kind _ = Flaw flaw.Name

-- only a value may be given
abbrev pub named : Kind → Option Thing → Given
named kind None = Flaw flaw.Name
named kind (Some one) = named_thing kind one

-- locations

abbrev pub text_if : Option (List ℕ) → Given
text_if None = Flaw flaw.Value
text_if (Some name) = text_given name

abbrev pub location_given : Scope → List ℕ → Given
location_given scope path = text_if (joined scope.file path)

-- a location is a text, joined to the folder of the document's file, and no other value
abbrev pub located : Scope → Kind → List ℕ → Given
located scope kind.Text path = location_given scope path
located scope _ path = Flaw flaw.Value

-- The value of the kind that a text of this form gives, where these names are known. No expression may stand there.
abbrev pub value_in : Scope → Names → Kind → Form → Given
value_in scope names kind (form.Literal text) = literal kind text
value_in scope names kind (form.Bound text) = Flaw flaw.Value
value_in scope names kind (form.Named name) = named kind (names name)
value_in scope names kind (form.Located path) = located scope kind path
value_in scope names kind form.Refused = Flaw flaw.Value

abbrev pub path_given : Scope → Given → Given
path_given scope (Value (value.Text path)) = location_given scope path
path_given scope (Value other) = Flaw flaw.Value
path_given scope (Flaw mistake) = Flaw mistake

-- the name of the file that a text means where a location is wanted, with or without `@`
abbrev pub path_in : Scope → Names → Form → Given
path_in scope names (form.Located path) = location_given scope path
path_in scope names other = path_given scope (value_in scope names kind.Text other)

abbrev pub property_of : ℕ → List ℕ → PlannedProperty
property_of node name = record { node = node; property = name }
