-- Which listed selectors match a node, over the node and its ancestors.
use Rattle.std.specs.Prelude.{ℕ, ◌≡◌, ◌==◌, Bool, false, ◌&&◌, ◌||◌, List, [], ◌∷◌, ◌++◌, map, slice_get, Option, Some, None, option_and_then, if◌then◌else◌}
use Rattle.std.specs.Option.{ForSome, option_map}
use Rattle.std.specs.List.{list_any, filter_map, flat_map}
use Rattle.fx_css_types.specs.declared.selectors.Selector.{Selector}
use Rattle.fx_css_types.specs.declared.sheets.Rule.{Rule}
use Rattle.fx_css_types.specs.declared.sheets.SheetAt.{SheetAt}
use Rattle.fx_css_types.specs.declared.sheets.SheetOrigin.{SheetOrigin}
use Rattle.fx_css_types.specs.declared.sheets.Candidate.{Candidate}
use Rattle.fx_kinds.specs.declared.facts.StyleFacts.{StyleFacts}
use Rattle.fx_kinds.specs.Classes.{name_of}
use Rattle.fx_select.specs.declared.hits.Seen.{Seen}
use Rattle.fx_select.specs.declared.lists.SelectorAt.{SelectorAt}
use Rattle.fx_select.specs.Keys.{Key, ById, ByClass, ByKind, InRest}
use Rattle.fx_select.specs.Listing.{Listing, bare_of, each, listed}
use Rattle.fx_select.specs.Matching.{matches_chain}
use Rattle.fx_css_types.specs.Specificity.{specificity_of}

abbrev pub is_place : Option ℕ → ℕ → Bool
is_place None place = false
is_place (Some own) place = own == place

-- the sheet is the node's inline sheet
abbrev pub is_inline : StyleFacts → ℕ → Bool
is_inline node sheet = is_place node.inline sheet

-- the node lists the sheet
abbrev pub lists_sheet : ℕ → StyleFacts → Bool
lists_sheet sheet node = list_any (λ (place : ℕ). place == sheet) node.sheets

-- the sheet is the inline sheet of the first node, or that node or an ancestor lists it
abbrev pub is_visible : List StyleFacts → ℕ → Bool
is_visible [] sheet = false
is_visible (node ∷ above) sheet = is_inline node sheet || list_any (lists_sheet sheet) (node ∷ above)

-- what was found for a sheet, if anything was, is whether the first node sees it
abbrev pub IsRight : List StyleFacts → Option Seen → Type 0
IsRight nodes last = ForSome last (λ (s : Seen). s.visible ≡ is_visible nodes s.sheet)

abbrev pub is_own : List StyleFacts → ℕ → Bool
is_own [] sheet = false
is_own (node ∷ above) sheet = is_inline node sheet

-- the specificity of a selector of this sheet, where it matches
unfoldable pub selector_weight : List StyleFacts → ℕ → Selector → Option (ℕ × ℕ × ℕ)
selector_weight nodes sheet selector =
    if matches_chain selector nodes && is_visible nodes sheet then Some (specificity_of selector) else None

-- a rule without selector matches the node whose inline sheet holds it
abbrev pub bare_weight : List StyleFacts → ℕ → List Selector → Option (ℕ × ℕ × ℕ)
bare_weight nodes sheet [] = if is_own nodes sheet then Some (0, 0, 0) else None
bare_weight nodes sheet (first ∷ more) = None

unfoldable pub weight_at : List StyleFacts → ℕ → List Selector → Option ℕ → Option (ℕ × ℕ × ℕ)
weight_at nodes sheet selectors None = bare_weight nodes sheet selectors
weight_at nodes sheet selectors (Some place) = option_and_then (selector_weight nodes sheet) (slice_get selectors place)

abbrev pub candidate : ℕ → ℕ → SheetOrigin → ℕ × ℕ × ℕ → Candidate
candidate sheet rule origin weight = record { sheet = sheet; rule = rule; specificity = weight; origin = origin }

unfoldable pub hit_in : List StyleFacts → SelectorAt → SheetAt → Option Candidate
hit_in nodes at sheet =
    option_map (candidate at.sheet at.rule sheet.origin)
    (option_and_then (λ (r : Rule). weight_at nodes at.sheet r.selectors at.selector)
    (slice_get sheet.sheet.rules at.rule))

-- the rule of a listed selector with the selector's specificity, where it is there in these sheets and matches
unfoldable pub hit_of : List SheetAt → List StyleFacts → SelectorAt → Option Candidate
hit_of sheets nodes at = option_and_then (hit_in nodes at) (slice_get sheets at.sheet)

-- what a node may be found under
abbrev pub keys_of : StyleFacts → List Key
keys_of node = ById node.id ∷ (map ByClass node.classes ++ ByKind (name_of node.class) ∷ InRest ∷ [])

-- the selectors that are listed for the first node, and the rules without selector, that match it
unfoldable pub hits_of : Listing → List SheetAt → List StyleFacts → List Candidate
hits_of listing sheets [] = []
hits_of listing sheets (node ∷ above) =
    filter_map (hit_of sheets (node ∷ above)) (flat_map (listed listing) (keys_of node) ++ bare_of sheets)

-- a rule of the node's own inline sheet, which matches it if it has no selector
abbrev pub own_hit : ℕ → SheetOrigin → ℕ → List Selector → List Candidate
own_hit sheet origin rule [] = candidate sheet rule origin (0, 0, 0) ∷ []
own_hit sheet origin rule (first ∷ more) = []

abbrev pub own_hits_in : ℕ → SheetOrigin → List Rule → List Candidate
own_hits_in sheet origin rules = each (λ (place : ℕ) (r : Rule). own_hit sheet origin place r.selectors) rules

abbrev pub own_hits_at : ℕ → Option SheetAt → List Candidate
own_hits_at own None = []
own_hits_at own (Some s) = own_hits_in own s.origin s.sheet.rules

-- what the inline sheet of a node gives it, found by its place
abbrev pub own_hits : Option ℕ → List SheetAt → List Candidate
own_hits None sheets = []
own_hits (Some own) sheets = own_hits_at own (slice_get sheets own)
