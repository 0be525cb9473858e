-- The rules that match a node, in their order, each with the greatest specificity of its selectors that match.
use Rattle.std.specs.Prelude.{ℕ, ◌==◌, nat_lt, Bool, ◌&&◌, ◌||◌, List, [], ◌∷◌, map, filter, fold, Option, Some, None, if◌then◌else◌}
use Rattle.std.specs.Option.{option_map}
use Rattle.std.specs.List.{filter_map}
use Rattle.fx_css_types.specs.declared.sheets.Rule.{Rule}
use Rattle.fx_css_types.specs.declared.sheets.SheetAt.{SheetAt}
use Rattle.fx_css_types.specs.declared.sheets.SheetOrigin.{SheetOrigin}
use Rattle.fx_css_types.specs.declared.sheets.Candidate.{Candidate}
use Rattle.fx_kinds.specs.declared.facts.StyleFacts.{StyleFacts}
use Rattle.fx_select.specs.Chains.{chain}
use Rattle.fx_select.specs.Hits.{candidate, hits_of}
use Rattle.fx_select.specs.Listing.{Listing, each}

-- a rule by its places, with the origin of its sheet
pub record RuleAt : Type 0 where
  pub sheet : ℕ
  pub rule : ℕ
  pub origin : SheetOrigin

-- all rules of these sheets in their order
abbrev pub sheet_rules : ℕ → SheetAt → List RuleAt
sheet_rules place s =
    each (λ (at : ℕ) (r : Rule). record { sheet = place; rule = at; origin = s.origin } ∷ []) s.sheet.rules

abbrev pub rules_of : List SheetAt → List RuleAt
rules_of sheets = each sheet_rules sheets

-- by ids; then by classes and pseudo-classes; then by types
abbrev pub is_weaker : ℕ × ℕ × ℕ → ℕ × ℕ × ℕ → Bool
is_weaker one other =
    nat_lt one.0 other.0 || ((one.0 == other.0)
    && (nat_lt one.1 other.1 || ((one.1 == other.1) && nat_lt one.2 other.2)))

abbrev pub greater : ℕ × ℕ × ℕ → ℕ × ℕ × ℕ → ℕ × ℕ × ℕ
greater one other = if is_weaker one other then other else one

abbrev pub greater_of : Option (ℕ × ℕ × ℕ) → ℕ × ℕ × ℕ → Option (ℕ × ℕ × ℕ)
greater_of None weight = Some weight
greater_of (Some most) weight = Some (greater most weight)

-- the greatest of these, if there is any
abbrev pub greatest : List (ℕ × ℕ × ℕ) → Option (ℕ × ℕ × ℕ)
greatest weights = fold greater_of None weights

abbrev pub is_of_rule : RuleAt → Candidate → Bool
is_of_rule rule hit = (hit.sheet == rule.sheet) && (hit.rule == rule.rule)

-- the specificities by which a rule was hit
abbrev pub weights_of : List Candidate → RuleAt → List (ℕ × ℕ × ℕ)
weights_of hits rule = map (λ (hit : Candidate). hit.specificity) (filter (is_of_rule rule) hits)

-- a rule that was hit, with the greatest specificity
unfoldable pub strongest : List Candidate → RuleAt → Option Candidate
strongest hits rule = option_map (candidate rule.sheet rule.rule rule.origin) (greatest (weights_of hits rule))

-- the rules that were hit, in their order
abbrev pub strongest_of : List Candidate → List SheetAt → List Candidate
strongest_of hits sheets = filter_map (strongest hits) (rules_of sheets)

-- the rules that have a selector listed for the node that matches it, and those of its inline sheet without selector
abbrev pub matched_of : Listing → List SheetAt → List StyleFacts → ℕ → List Candidate
matched_of listing sheets facts at = strongest_of (hits_of listing sheets (chain facts at)) sheets
