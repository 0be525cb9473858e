-- What sheets that are read keep within: limits on their parts, and values that fit the names under which they stand.
use Rattle.std.specs.Prelude.{ℕ, ◌≡◌, ◌≤◌, ◌<◌, List, length, Option, Some, None, All}
use Rattle.std.specs.Option.{option_and_then, option_map}
use Rattle.fx_base.specs.declared.kinds.Family.TheVariants.{Pos}
use Rattle.fx_base.specs.declared.values.Value.TheVariants as value
use Rattle.fx_look.specs.declared.styles.StyleForm.{StyleForm}
use Rattle.fx_look.specs.declared.styles.StyleForm.TheVariants as form
use Rattle.fx_look.specs.declared.styles.StyleName.{StyleName}
use Rattle.fx_look.specs.StyleRows.{style_at, style_named}
use Rattle.fx_css_types.specs.declared.declarations.Declaration.{Declaration}
use Rattle.fx_css_types.specs.declared.declarations.Declared.{Declared}
use Rattle.fx_css_types.specs.declared.declarations.Declared.TheVariants as declared
use Rattle.fx_css_types.specs.declared.selectors.Selector.{Selector}
use Rattle.fx_css_types.specs.declared.sheets.Rule.{Rule}
use Rattle.fx_css_types.specs.declared.sheets.Sheet.{Sheet}
use Rattle.fx_css_types.specs.declared.sheets.SheetAt.{SheetAt}
use Rattle.fx_css_types.specs.Specificity.{part_count}

-- the style declaration of this name, by its row in their table; none where any name with one paint is looked up
abbrev pub row_of : List ℕ → Option StyleName
row_of name = option_map (λ place. record { 0 = place }) (style_named name)

-- the form of the value of a row
abbrev pub form_at : Option StyleName → Option StyleForm
form_at row = option_map (λ r. r.form) (option_and_then (λ (name : StyleName). style_at name.0) row)

-- the form of the style declaration of this name
abbrev pub form_of : List ℕ → Option StyleForm
form_of name = form_at (row_of name)

-- a value of this form, but for `inherit`
abbrev pub IsOfForm : StyleForm → Declared → Type 0
IsOfForm form.Sides (declared.Plain (value.Sides s)) = Unit {0}
IsOfForm form.Position (declared.Plain (value.Choice Pos place)) = place < 9
IsOfForm form.Size (declared.Plain (value.Int n)) = Unit {0}
IsOfForm form.Truth (declared.Plain (value.Bool b)) = Unit {0}
IsOfForm form.Visibility (declared.Plain (value.Bool b)) = Unit {0}
IsOfForm form.Paint (declared.Paint p) = Unit {0}
IsOfForm form.Paints (declared.Paints ps) = Unit {0}
IsOfForm form.SidesList (declared.SidesList ss) = Unit {0}
IsOfForm f d = ⊥

-- a value that may stand under a name of this form, or of no style declaration, where one paint stands
abbrev pub Fits : Option StyleForm → Declared → Type 0
Fits None (declared.Paint p) = Unit {0}
Fits None d = ⊥
Fits (Some f) declared.Inherit = Unit {0}
Fits (Some f) d = IsOfForm f d

-- how many layers a value has that may have many
abbrev pub layer_count : Declared → ℕ
layer_count (declared.Paints ps) = length ps
layer_count (declared.SidesList ss) = length ss
layer_count _ = 0

-- at most 64 selectors, of at most 16 compounds each
abbrev pub AreFew : List Selector → Type 0
AreFew selectors = (length selectors ≤ 64) × All (λ s. length s.compounds ≤ 16) selectors

-- selectors of at most 4,194,304 parts
abbrev pub AreShortSelectors : List Selector → Type 0
AreShortSelectors selectors = All (λ (s : Selector). part_count s ≤ 4194304) selectors

abbrev pub AreShortRules : List Rule → Type 0
AreShortRules rules = All (λ (r : Rule). AreShortSelectors r.selectors) rules

abbrev pub AreShort : List SheetAt → Type 0
AreShort sheets = All (λ (s : SheetAt). AreShortRules s.sheet.rules) sheets

pub record IsKeptDeclaration (d : Declaration) : Type 0 where
  pub row : d.row ≡ row_of d.name
  pub layers : layer_count d.value ≤ 8
  pub fits : Fits (form_of d.name) d.value

pub record IsKeptRule (r : Rule) : Type 0 where
  pub few : AreFew r.selectors
  pub short : AreShortSelectors r.selectors
  pub declarations : length r.declarations ≤ 256
  pub each : All IsKeptDeclaration r.declarations

-- a sheet within all limits, each of whose declarations has the row of its name and a value that fits it
pub record IsWithinLimits (sheet : Sheet) : Type 0 where
  pub rules : length sheet.rules ≤ 4096
  pub each : All IsKeptRule sheet.rules

abbrev pub AreWithinLimits : List SheetAt → Type 0
AreWithinLimits sheets = All (λ (s : SheetAt). IsWithinLimits s.sheet) sheets
