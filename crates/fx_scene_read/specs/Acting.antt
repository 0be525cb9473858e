-- What the attributes of an instance ask for.
use Rattle.std.specs.Prelude.{ℕ, Bool, not, List, [], ◌∷◌, codes, if◌then◌else◌}
use Rattle.std.specs.Str.{bytes_eq}
use Rattle.fx_base.specs.declared.values.Value.TheVariants as value
use Rattle.fx_doc_grammar.specs.Grammar.{Attr}
use Rattle.fx_kinds.specs.declared.classes.Class.{Class}
use Rattle.fx_scene_acts.specs.declared.acts.Deed.{Deed}
use Rattle.fx_scene_acts.specs.declared.acts.Deed.TheVariants as deed
use Rattle.fx_scene_flaws.specs.declared.flaws.Flaw.TheVariants as flaw
use Rattle.fx_scene_plan.specs.declared.steps.PlannedStep.TheVariants as planned
use Rattle.fx_scene_read.specs.Sheets.{sheet_deeds}
use Rattle.fx_scene_things.specs.Names.{Names, has_name}
use Rattle.fx_scene_values.specs.Properties.{property_deed}
use Rattle.fx_scene_values.specs.Roles.{role_of}
use Rattle.fx_scene_values.specs.Scopes.{Scope}
use Rattle.fx_scene_values.specs.Statics.{static_deed}
use Rattle.fx_scene_values.specs.Styles.{class_deeds, handler_deed, style_deed}
use Rattle.fx_scene_values.specs.Values.{property_of}
use Rattle.fx_scene_values.specs.declared.roles.Role.{Role}
use Rattle.fx_scene_values.specs.declared.roles.Role.TheVariants as role
use Rattle.fx_text.specs.Classes.{is_identifier}

-- the name is the property `id`, too, unless that is given
abbrev pub id_deeds : ℕ → Bool → List ℕ → List Deed
id_deeds node given name =
    if given then [] else deed.Step (planned.Code (property_of node (codes "id")) (value.Text name)) ∷ []

abbrev pub named_deed : ℕ → List ℕ → Deed
named_deed node name = deed.Step (planned.Named node (name ∷ []))

-- a name is an identifier that nothing before has
abbrev pub name_deeds : Names → ℕ → Bool → List ℕ → List Deed
name_deeds names node given name =
    if not (is_identifier name) then deed.Flaw flaw.Value ∷ []
    else (if has_name names name then deed.Flaw flaw.Duplicate ∷ []
    else named_deed node name ∷ id_deeds node given name)

abbrev pub deeds_by : Scope → Names → Class → ℕ → Bool → Attr → Role → List Deed
deeds_by scope names class node given a role.Name = name_deeds names node given a.value
deeds_by scope names class node given a role.Ignored = []
deeds_by scope names class node given a role.Style = style_deed scope names node a.value ∷ []
deeds_by scope names class node given a role.Classes = class_deeds scope names node a.value
deeds_by scope names class node given a role.Sheets = sheet_deeds scope names node a.value
deeds_by scope names class node given a (role.Handler on) = handler_deed node on a.value ∷ []
deeds_by scope names class node given a role.Static = static_deed scope names node a.name a.value ∷ []
deeds_by scope names class node given a role.Property = property_deed scope names class node a.name a.value ∷ []

-- what an attribute of an instance of the class asks for, where its property `id` is given or not
unfoldable pub attribute_deeds : Scope → Names → Class → ℕ → Bool → Attr → List Deed
attribute_deeds scope names class node given a = deeds_by scope names class node given a (role_of a.name)

-- the attribute `source` tells which document is included
abbrev pub root_deeds : Scope → Names → Class → ℕ → Bool → Attr → List Deed
root_deeds scope names class node given a =
    if bytes_eq a.name (codes "source") then [] else attribute_deeds scope names class node given a
