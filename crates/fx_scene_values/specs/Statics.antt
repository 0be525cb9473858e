-- Constraints, and what attributes and texts for them ask for.
use Rattle.std.specs.Prelude.{ℕ, Bool, List, Option, Some, None, if◌then◌else◌}
use Rattle.fx_base.specs.declared.values.Value.{Value as Content}
use Rattle.fx_kinds.specs.Constraints as kinds
use Rattle.fx_kinds.specs.Constraints.{ConstraintEntry, constraint_named}
use Rattle.fx_scene_acts.specs.declared.acts.Deed.{Deed}
use Rattle.fx_scene_acts.specs.declared.acts.Deed.TheVariants as deed
use Rattle.fx_scene_flaws.specs.declared.flaws.Flaw.TheVariants as flaw
use Rattle.fx_scene_names.specs.Names.{lacks_owner}
use Rattle.fx_scene_plan.specs.declared.steps.PlannedStep.TheVariants as planned
use Rattle.fx_scene_things.specs.Names.{Names}
use Rattle.fx_scene_values.specs.Forms.{form_of}
use Rattle.fx_scene_values.specs.Scopes.{Scope}
use Rattle.fx_scene_values.specs.Values.{value_in}
use Rattle.fx_scene_values.specs.declared.values.Given.{Given}
use Rattle.fx_scene_values.specs.declared.values.Given.TheVariants.{Value, Flaw}

abbrev pub is_in_range : ConstraintEntry → Content → Bool
is_in_range entry content = kinds.is_in_range entry.range content

abbrev pub given_deed : ℕ → List ℕ → ConstraintEntry → Given → Deed
given_deed node name entry (Flaw mistake) = deed.Flaw mistake
given_deed node name entry (Value content) =
    if is_in_range entry content then deed.Step (planned.Constraint node name content) else deed.Flaw flaw.Value

abbrev pub row_deed : Scope → Names → ℕ → List ℕ → ConstraintEntry → List ℕ → Deed
row_deed scope names node name entry text =
    given_deed node name entry (value_in scope names entry.kind (form_of text))

abbrev pub deed_if : Scope → Names → ℕ → List ℕ → List ℕ → Option ConstraintEntry → Deed
deed_if scope names node name text None = deed.Flaw flaw.Property
deed_if scope names node name text (Some entry) = row_deed scope names node name entry text

-- what the attribute of this name and text asks for: its class is imported, and it is one of the table
unfoldable pub static_deed : Scope → Names → ℕ → List ℕ → List ℕ → Deed
static_deed scope names node name text =
    if lacks_owner scope.imports name then deed.Flaw flaw.Import
    else deed_if scope names node name text (constraint_named name)
