-- All rules that match a node, without an index: the whole list over all rules of all sheets in their order.
use Rattle.std.specs.Prelude.{ℕ, List, [], ◌∷◌, option_to_list}
use Rattle.std.specs.Option.{option_map}
use Rattle.std.specs.List.{filter_map}
use Rattle.fx_css_types.specs.declared.selectors.Selector.{Selector}
use Rattle.fx_css_types.specs.declared.sheets.Rule.{Rule}
use Rattle.fx_css_types.specs.declared.sheets.SheetAt.{SheetAt}
use Rattle.fx_css_types.specs.declared.sheets.Candidate.{Candidate}
use Rattle.fx_kinds.specs.declared.facts.StyleFacts.{StyleFacts}
use Rattle.fx_select.specs.Chains.{chain}
use Rattle.fx_select.specs.Hits.{bare_weight, candidate, selector_weight}
use Rattle.fx_select.specs.Listing.{each}
use Rattle.fx_select.specs.Strongest.{greatest}

-- the specificities of the selectors of a rule that match and whose sheet the node sees
abbrev pub rule_weights : List StyleFacts → ℕ → List Selector → List (ℕ × ℕ × ℕ)
rule_weights nodes sheet [] = option_to_list (bare_weight nodes sheet [])
rule_weights nodes sheet (first ∷ more) = filter_map (selector_weight nodes sheet) (first ∷ more)

-- the rule, where it matches
abbrev pub matching_rule : List StyleFacts → ℕ → SheetAt → ℕ → Rule → List Candidate
matching_rule nodes sheet s rule r =
    option_to_list (option_map (candidate sheet rule s.origin) (greatest (rule_weights nodes sheet r.selectors)))

abbrev pub matching_in : List StyleFacts → ℕ → SheetAt → List Candidate
matching_in nodes sheet s = each (matching_rule nodes sheet s) s.sheet.rules

-- the rules that match, in their order, each with the greatest specificity of its selectors that match
abbrev pub matching_of : List SheetAt → List StyleFacts → ℕ → List Candidate
matching_of sheets facts at = each (matching_in (chain facts at)) sheets
