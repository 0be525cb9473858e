-- Nodes of which selectors and sheets see the same, but for their ids.
use Rattle.std.specs.Prelude.{◌≡◌, List, [], ◌∷◌}
use Rattle.fx_css_types.specs.declared.sheets.SheetAt.{SheetAt}
use Rattle.fx_kinds.specs.declared.facts.StyleFacts.{StyleFacts}
use Rattle.fx_select.specs.AllMatching.{matching_in}
use Rattle.fx_select.specs.Keys.{ById}
use Rattle.fx_select.specs.Listing.{IsListing, Listing, each, listed}

-- all that a selector may ask of the node itself, its id aside, and the sheets that it brings
pub record AreAlike (one other : StyleFacts) : Type 0 where
  pub class : one.class ≡ other.class
  pub classes : one.classes ≡ other.classes
  pub pseudos : one.pseudos ≡ other.pseudos
  pub inline : one.inline ≡ other.inline
  pub sheets : one.sheets ≡ other.sheets

-- no selector is listed under the node's id
abbrev pub IsUnasked : Listing → StyleFacts → Type 0
IsUnasked listing node = listed listing (ById node.id) ≡ []

-- below the same ancestors the same rules match both
abbrev pub MatchAlike : List SheetAt → StyleFacts → StyleFacts → List StyleFacts → Type 0
MatchAlike sheets one other above = each (matching_in (one ∷ above)) sheets ≡ each (matching_in (other ∷ above)) sheets
