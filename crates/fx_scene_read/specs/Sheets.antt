-- Style sheets of a node, as the attribute `stylesheets` lists them: a location for each item (Introduction to FXML).
use Rattle.std.specs.Prelude.{ℕ, List, map}
use Rattle.std.specs.List.{slice_split}
use Rattle.fx_base.specs.declared.kinds.Kind.TheVariants as kind
use Rattle.fx_base.specs.declared.values.Value.{Value}
use Rattle.fx_base.specs.declared.values.Value.TheVariants as value
use Rattle.fx_scene_acts.specs.declared.acts.Deed.{Deed}
use Rattle.fx_scene_acts.specs.declared.acts.Deed.TheVariants as deed
use Rattle.fx_scene_flaws.specs.declared.flaws.Flaw.TheVariants as flaw
use Rattle.fx_scene_things.specs.Names.{Names}
use Rattle.fx_scene_values.specs.Forms as form
use Rattle.fx_scene_values.specs.Forms.{Form, form_of}
use Rattle.fx_scene_values.specs.Scopes.{Scope}
use Rattle.fx_scene_values.specs.Styles.{is_comma}
use Rattle.fx_scene_values.specs.Values.{value_in}
use Rattle.fx_scene_values.specs.declared.values.Given.{Given}
use Rattle.fx_scene_values.specs.declared.values.Given.TheVariants as given
use Rattle.fx_text.specs.Trimming.{trimmed}

-- a text is a location
abbrev pub valued_sheet : ℕ → Value → Deed
valued_sheet node (value.Text location) = deed.Sheet node location
valued_sheet node other = deed.Flaw flaw.Value

abbrev pub given_sheet : ℕ → Given → Deed
given_sheet node (given.Value value) = valued_sheet node value
given_sheet node (given.Flaw mistake) = deed.Flaw mistake

-- and so is what stands behind `@`
abbrev pub formed_sheet : Scope → Names → ℕ → Form → Deed
formed_sheet scope names node (form.Located location) = deed.Sheet node location
formed_sheet scope names node other = given_sheet node (value_in scope names kind.Text other)

abbrev pub sheet_deed : Scope → Names → ℕ → List ℕ → Deed
sheet_deed scope names node item = formed_sheet scope names node (form_of item)

-- a sheet for each item, without the white at its ends
abbrev pub item_deeds : Scope → Names → ℕ → List (List ℕ) → List Deed
item_deeds scope names node items = map (λ item. sheet_deed scope names node (trimmed item)) items

-- what the attribute of this text asks for
unfoldable pub sheet_deeds : Scope → Names → ℕ → List ℕ → List Deed
sheet_deeds scope names node text = item_deeds scope names node (slice_split is_comma text)
