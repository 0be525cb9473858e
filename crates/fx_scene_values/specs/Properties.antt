-- Properties by the names that documents have for them, and what attributes and texts for them ask for.
use Rattle.std.specs.Prelude.{ℕ, List, codes, Option, Some, None, if◌then◌else◌}
use Rattle.std.specs.List.{find}
use Rattle.std.specs.Str.{bytes_eq}
use Rattle.fx_kinds.specs.Properties.{ListedProperty, properties_of}
use Rattle.fx_kinds.specs.declared.classes.Class.{Class}
use Rattle.fx_scene_acts.specs.declared.acts.Binding.{Binding}
use Rattle.fx_scene_acts.specs.declared.acts.Deed.{Deed}
use Rattle.fx_scene_acts.specs.declared.acts.Deed.TheVariants as deed
use Rattle.fx_scene_flaws.specs.declared.flaws.Flaw.TheVariants as flaw
use Rattle.fx_scene_plan.specs.declared.steps.PlannedStep.TheVariants as planned
use Rattle.fx_scene_things.specs.Names.{Names}
use Rattle.fx_scene_values.specs.Forms as form
use Rattle.fx_scene_values.specs.Forms.{Form, form_of}
use Rattle.fx_scene_values.specs.Scopes.{Scope}
use Rattle.fx_scene_values.specs.Values.{property_of, value_in}
use Rattle.fx_scene_values.specs.declared.values.Given.{Given}
use Rattle.fx_scene_values.specs.declared.values.Given.TheVariants.{Value, Flaw}

-- documents call the size of the font `font`
abbrev pub property_name : List ℕ → List ℕ
property_name name = if bytes_eq name (codes "font") then codes "fontSize" else name

abbrev pub listed : Class → List ℕ → Option ListedProperty
listed class name = find (λ (p : ListedProperty). bytes_eq p.name name) (properties_of class)

-- the property of the class that documents call so
unfoldable pub property_named : Class → List ℕ → Option ListedProperty
property_named class name =
    if bytes_eq name (codes "fontSize") then None else listed class (property_name name)

-- a property that is only published can't be given
abbrev pub given_deed : ℕ → ListedProperty → Given → Deed
given_deed node property (Flaw mistake) = deed.Flaw mistake
given_deed node property (Value content) =
    if property.read_only then deed.Flaw flaw.ReadOnly
    else deed.Step (planned.Code (property_of node property.name) content)

abbrev pub binding_of : Class → ℕ → List ℕ → List ℕ → Binding
binding_of class node name text = record { node = node; class = class; property = name; text = text }

-- an expression is taken once all names are there
abbrev pub bound_deed : Class → ℕ → List ℕ → ListedProperty → List ℕ → Deed
bound_deed class node name property text =
    if property.read_only then deed.Flaw flaw.ReadOnly else deed.Bind (binding_of class node name text)

abbrev pub formed_deed : Scope → Names → Class → ℕ → List ℕ → ListedProperty → Form → Deed
formed_deed scope names class node name property (form.Bound text) = bound_deed class node name property text
formed_deed scope names class node name property other =
    given_deed node property (value_in scope names property.kind other)

abbrev pub deed_if : Scope → Names → Class → ℕ → List ℕ → List ℕ → Option ListedProperty → Deed
deed_if scope names class node name text None = deed.Flaw flaw.Property
deed_if scope names class node name text (Some property) =
    formed_deed scope names class node name property (form_of text)

-- what the attribute of this name and text asks for, where these names are known
unfoldable pub property_deed : Scope → Names → Class → ℕ → List ℕ → List ℕ → Deed
property_deed scope names class node name text =
    deed_if scope names class node name text (property_named class name)
