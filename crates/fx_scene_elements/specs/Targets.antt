-- What property elements give their values to.
use Rattle.std.specs.Prelude.{ℕ, List, Option, Some, None, Result, Ok, Err, if◌then◌else◌}
use Rattle.fx_base.specs.declared.kinds.Kind.{Kind}
use Rattle.fx_base.specs.declared.values.Value.{Value as Content}
use Rattle.fx_kinds.specs.Constraints.{ConstraintEntry, constraint_named}
use Rattle.fx_kinds.specs.Properties.{ListedProperty}
use Rattle.fx_kinds.specs.declared.classes.Class.{Class}
use Rattle.fx_scene_acts.specs.declared.acts.Deed.{Deed}
use Rattle.fx_scene_flaws.specs.declared.flaws.Flaw.{Flaw}
use Rattle.fx_scene_flaws.specs.declared.flaws.Flaw.TheVariants as flaw
use Rattle.fx_scene_names.specs.Names.{is_static, lacks_owner}
use Rattle.fx_scene_values.specs.Properties as properties
use Rattle.fx_scene_values.specs.Properties.{property_named}
use Rattle.fx_scene_values.specs.Scopes.{Scope}
use Rattle.fx_scene_values.specs.Statics as statics
use Rattle.fx_scene_values.specs.declared.values.Given.TheVariants.{Value}

-- what the value of a property element is given to
pub data Target : Type 0 where
  Plain : ListedProperty → Target
  Static : ConstraintEntry → Target

abbrev pub known_target : Option ListedProperty → Result Target Flaw
known_target None = Err flaw.Property
known_target (Some property) = if property.read_only then Err flaw.ReadOnly else Ok (Plain property)

abbrev pub constraint_target : Option ConstraintEntry → Result Target Flaw
constraint_target None = Err flaw.Property
constraint_target (Some entry) = Ok (Static entry)

abbrev pub plain_target : Class → List ℕ → Result Target Flaw
plain_target class name = known_target (property_named class name)

abbrev pub static_target : Scope → List ℕ → Result Target Flaw
static_target scope name =
    if lacks_owner scope.imports name then Err flaw.Import else constraint_target (constraint_named name)

-- what the property element of this name gives its value to, or what is wrong with it
unfoldable pub target_of : Scope → Class → List ℕ → Result Target Flaw
target_of scope class name = if is_static name then static_target scope name else plain_target class name

abbrev pub target_kind : Target → Kind
target_kind (Plain property) = property.kind
target_kind (Static entry) = entry.kind

abbrev pub value_deed : ℕ → List ℕ → Target → Content → Deed
value_deed node name (Plain property) content = properties.given_deed node property (Value content)
value_deed node name (Static entry) content = statics.given_deed node name entry (Value content)
