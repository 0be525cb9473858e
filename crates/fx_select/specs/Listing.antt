-- What an index of rules lists, and what it lists of a list of sheets.
use Rattle.std.specs.Prelude.{ℕ, ◌≡◌, List, [], ◌∷◌, ◌++◌, map, filter, Some, None, All, if◌then◌else◌}
use Rattle.std.specs.List.{flat_map, enumerate_from}
use Rattle.fx_css_types.specs.declared.selectors.Selector.{Selector}
use Rattle.fx_css_types.specs.declared.sheets.Rule.{Rule}
use Rattle.fx_css_types.specs.declared.sheets.SheetAt.{SheetAt}
use Rattle.fx_select.specs.declared.lists.SelectorAt.{SelectorAt}
use Rattle.fx_select.specs.Keys.{Key, ById, ByClass, ByKind, InRest, is_same_key, key_of}
use Rattle.fx_select.specs.Named.{under}

-- one list of selectors for each id, each class and each type, and the rest
pub record Listing : Type 0 where
  pub ids : List (List ℕ × List SelectorAt)
  pub classes : List (List ℕ × List SelectorAt)
  pub kinds : List (List ℕ × List SelectorAt)
  pub rest : List SelectorAt

abbrev pub listed : Listing → Key → List SelectorAt
listed listing (ById name) = under listing.ids name
listed listing (ByClass name) = under listing.classes name
listed listing (ByKind name) = under listing.kinds name
listed listing InRest = listing.rest

-- the same lists with a selector behind those of a key
abbrev pub with_added : (Key → List SelectorAt) → Key → SelectorAt → Key → List SelectorAt
with_added lists key at other = if is_same_key other key then lists other ++ at ∷ [] else lists other

-- what each element gives with its place, joined
unfoldable pub each : {X A : Type 0} → (ℕ → X → List A) → List X → List A
each {X} give xs = flat_map (λ (e : ℕ × X). give e.0 e.1) (enumerate_from 0 xs)

-- each selector of a rule once, under its key
abbrev pub selector_entries : ℕ → ℕ → List Selector → List (Key × SelectorAt)
selector_entries sheet rule selectors =
    each (λ (place : ℕ) (s : Selector). (key_of s, record { sheet = sheet; rule = rule; selector = Some place }) ∷ [])
    selectors

abbrev pub sheet_entries : ℕ → List Rule → List (Key × SelectorAt)
sheet_entries sheet rules = each (λ (place : ℕ) (r : Rule). selector_entries sheet place r.selectors) rules

-- each selector of these sheets once, under its key
abbrev pub entries : List SheetAt → List (Key × SelectorAt)
entries sheets = each (λ (place : ℕ) (s : SheetAt). sheet_entries place s.sheet.rules) sheets

-- a rule without selector, which is listed under no key
abbrev pub bare_at : ℕ → ℕ → List Selector → List SelectorAt
bare_at sheet rule [] = (record { sheet = sheet; rule = rule; selector = None }) ∷ []
bare_at sheet rule (first ∷ more) = []

abbrev pub bare_in : ℕ → List Rule → List SelectorAt
bare_in sheet rules = each (λ (place : ℕ) (r : Rule). bare_at sheet place r.selectors) rules

-- the rules without selector of these sheets
abbrev pub bare_of : List SheetAt → List SelectorAt
bare_of sheets = each (λ (place : ℕ) (s : SheetAt). bare_in place s.sheet.rules) sheets

-- a sheet of rules without selectors, as an inline style is read
abbrev pub IsBare : SheetAt → Type 0
IsBare s = All (λ (r : Rule). r.selectors ≡ []) s.sheet.rules

-- those of a key, in their order
unfoldable pub under_key : Key → List (Key × SelectorAt) → List SelectorAt
under_key key all = map (λ (e : Key × SelectorAt). e.1) (filter (λ (e : Key × SelectorAt). is_same_key key e.0) all)

-- under each key the selectors of these sheets that have it
abbrev pub IsListing : List SheetAt → Listing → Type 0
IsListing sheets listing = (key : Key) → listed listing key ≡ under_key key (entries sheets)
