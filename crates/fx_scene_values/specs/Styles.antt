-- Style classes, inline styles and handlers.
use Rattle.std.specs.Prelude.{ℕ, ◌==◌, Bool, List, map, Option, Some, None, if◌then◌else◌}
use Rattle.std.specs.List.{slice_split}
use Rattle.fx_base.specs.declared.kinds.Kind.TheVariants as kind
use Rattle.fx_base.specs.declared.values.Value.TheVariants as value
use Rattle.fx_events.specs.declared.kinds.EventKind.{EventKind}
use Rattle.fx_scene_acts.specs.declared.acts.Deed.{Deed}
use Rattle.fx_scene_acts.specs.declared.acts.Deed.TheVariants as deed
use Rattle.fx_scene_flaws.specs.declared.flaws.Flaw.TheVariants as flaw
use Rattle.fx_scene_plan.specs.declared.steps.PlannedStep.TheVariants as planned
use Rattle.fx_scene_things.specs.Names.{Names}
use Rattle.fx_scene_values.specs.Forms.{form_of}
use Rattle.fx_scene_values.specs.Scopes.{Scope}
use Rattle.fx_scene_values.specs.Values.{value_in}
use Rattle.fx_scene_values.specs.declared.values.Given.{Given}
use Rattle.fx_scene_values.specs.declared.values.Given.TheVariants.{Value, Flaw}
use Rattle.fx_script_commands.specs.Braces.{behind_sign}
use Rattle.fx_stage_model.specs.Dressing.{is_past_limit, style_sheet}
use Rattle.fx_text.specs.Characters.{comma, number_sign}
use Rattle.fx_text.specs.Classes.{is_identifier}
use Rattle.fx_text.specs.Trimming.{trimmed}

-- a style is taken with what was dropped of it
abbrev pub literal_style : ℕ → List ℕ → Deed
literal_style node style =
    if is_past_limit style then deed.Flaw flaw.Limit else deed.Step (planned.Inline node (style_sheet style))

abbrev pub given_style : ℕ → Given → Deed
given_style node (Value (value.Text style)) = literal_style node style
given_style node (Value other) = deed.Flaw flaw.Value
given_style node (Flaw mistake) = deed.Flaw mistake

-- what the attribute `style` asks for, where these names are known
unfoldable pub style_deed : Scope → Names → ℕ → List ℕ → Deed
style_deed scope names node text = given_style node (value_in scope names kind.Text (form_of text))

abbrev pub given_class : ℕ → Given → Deed
given_class node (Value (value.Text name)) = deed.Step (planned.Class node name)
given_class node (Value other) = deed.Flaw flaw.Value
given_class node (Flaw mistake) = deed.Flaw mistake

abbrev pub class_deed : Scope → Names → ℕ → List ℕ → Deed
class_deed scope names node text = given_class node (value_in scope names kind.Text (form_of text))

abbrev pub is_comma : ℕ → Bool
is_comma c = c == comma

-- a style class for each item, without the white at its ends
abbrev pub item_deeds : Scope → Names → ℕ → List (List ℕ) → List Deed
item_deeds scope names node items = map (λ item. class_deed scope names node (trimmed item)) items

-- what the attribute `styleClass` asks for, where these names are known: a style class for each part between commas
unfoldable pub class_deeds : Scope → Names → ℕ → List ℕ → List Deed
class_deeds scope names node text = item_deeds scope names node (slice_split is_comma text)

-- an action is named by an identifier
abbrev pub action_deed : ℕ → EventKind → List ℕ → Deed
action_deed node on action =
    if is_identifier action then deed.Step (planned.Convenience node on action) else deed.Flaw flaw.Value

abbrev pub handler_if : ℕ → EventKind → Option (List ℕ) → Deed
handler_if node on (Some action) = action_deed node on action
handler_if node on None = deed.Flaw flaw.Value

-- what an attribute asks for that handles events of the type: `#` and the name of an action, which runs then
unfoldable pub handler_deed : ℕ → EventKind → List ℕ → Deed
handler_deed node on text = handler_if node on (behind_sign number_sign text)
