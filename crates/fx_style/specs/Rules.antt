-- The style of a node from nothing, and what an update makes of it.
use Rattle.std.specs.Prelude.{◌≡◌, ℕ, zero, suc, ◌+◌, ◌<◌, Bool, false, ◌||◌, List, [], ◌∷◌, length, slice_get, Option, Some, None, is_none, if◌then◌else◌}
use Rattle.std.specs.Option.{option_map}
use Rattle.fx_css_types.specs.declared.sheets.SheetAt.{SheetAt}
use Rattle.fx_css_types.specs.declared.sheets.Candidate.{Candidate}
use Rattle.fx_css_types.specs.Limits.{AreWithinLimits}
use Rattle.fx_kinds.specs.declared.facts.StyleFacts.{StyleFacts}
use Rattle.fx_kinds.specs.Properties.{initial_alignment}
use Rattle.fx_select.specs.AllMatching.{matching_in}
use Rattle.fx_select.specs.Chains.{chain}
use Rattle.fx_select.specs.Listing.{IsListing, Listing, each}
use Rattle.fx_cascade.specs.declared.sources.Source.{Source}
use Rattle.fx_cascade.specs.Sources.{best_source}
use Rattle.fx_cascade.specs.Tables.{AreRows}
use Rattle.fx_node_style.specs.declared.node_styles.NodeStyle.{NodeStyle}
use Rattle.fx_node_style.specs.Styling.{style_by}
use Rattle.fx_style.specs.Kept.{Kept, entry, entry_in, is_among, kept_at}
use Rattle.fx_style.specs.Places.{places_up}
use Rattle.fx_style.specs.Styled.{first_of, onto, styled}

-- the rules that match the first of these nodes
abbrev pub matching_nodes : List SheetAt → List StyleFacts → List Candidate
matching_nodes sheets nodes = each (matching_in nodes) sheets

-- the index is that of these sheets, which are within their limits
pub record AreIndexed (listing : Listing) (sheets : List SheetAt) : Type 0 where
  pub listed : IsListing sheets listing
  pub limits : AreWithinLimits sheets

-- the code values of each node are of rows that the style table has
abbrev pub HaveRows : List StyleFacts → Type 0
HaveRows facts = (at : ℕ) (node : StyleFacts) → slice_get facts at ≡ Some node → AreRows node.codes

-- the style of the first of these nodes, by the rules that match it and the styles of the others
unfoldable pub chain_style : List SheetAt → List StyleFacts → List NodeStyle → NodeStyle
chain_style sheets [] above = style_by sheets [] [] 0 above
chain_style sheets (node ∷ up) above =
    style_by sheets (matching_nodes sheets (node ∷ up)) node.codes (initial_alignment node.class) above

-- each node from nothing
abbrev pub anew : List SheetAt → List StyleFacts → ℕ → List NodeStyle → NodeStyle
anew sheets facts at above = chain_style sheets (chain facts at) above

-- the style of a node from nothing, by those of its ancestors from nothing
abbrev pub style_of : List SheetAt → List StyleFacts → ℕ → Option NodeStyle
style_of sheets facts at = first_of (styled (anew sheets facts) (places_up facts (Some at)))

abbrev pub or_made : Option NodeStyle → NodeStyle → NodeStyle
or_made (Some style) made = style
or_made None made = made

-- what wins the property of a name on the first of these nodes
abbrev pub winner_of : List SheetAt → List StyleFacts → List ℕ → Option Source
winner_of sheets [] name = None
winner_of sheets (node ∷ up) name = best_source sheets (matching_nodes sheets (node ∷ up)) node.codes name

-- what wins it on the node of a place
abbrev pub winner_at : List SheetAt → List StyleFacts → ℕ → List ℕ → Option Source
winner_at sheets facts at name = winner_of sheets (chain facts at) name

-- a listed node is styled anew, and so is one of which nothing is kept; every other keeps what it had
abbrev pub renewed_by : Bool → Option NodeStyle → NodeStyle → NodeStyle
renewed_by listed kept made = if listed then made else or_made kept made

abbrev pub renewed : (ℕ → Bool) → (ℕ → Option NodeStyle) → (ℕ → List NodeStyle → NodeStyle) → ℕ → List NodeStyle
    → NodeStyle
renewed listed kept rule at above = renewed_by (listed at) (kept at) (rule at above)

abbrev pub needs_by : Bool → Option NodeStyle → Bool
needs_by listed kept = listed || is_none kept

-- a node that an update styles anew
abbrev pub needs : List ℕ → (ℕ → Option NodeStyle) → ℕ → Bool
needs restyle kept at = needs_by (is_among restyle at) (kept at)

abbrev pub ticks : Bool → ℕ
ticks b = if b then 1 else 0

-- how many of the places below a number pass
abbrev pub worked : (ℕ → Bool) → ℕ → ℕ
worked test zero = 0
worked test (suc n) = worked test n + ticks (test n)

-- the style of each node after an update, by recursion from the root over what its ancestors have then
abbrev pub updated_style : List SheetAt → List StyleFacts → List ℕ → (ℕ → Option NodeStyle) → ℕ → Option NodeStyle
updated_style sheets facts restyle kept at =
    first_of (styled (renewed (is_among restyle) kept (anew sheets facts)) (places_up facts (Some at)))

abbrev pub kept_of : Kept → List StyleFacts → ℕ → Option NodeStyle
kept_of kept facts at = kept_at kept.looks kept.rest facts at

-- each node has its key and its style of the update
pub record IsUpdate (sheets : List SheetAt) (facts : List StyleFacts) (restyle : List ℕ) (old new : Kept) : Type 0 where
  pub looks : length new.looks ≡ length facts
  pub rest : length new.rest ≡ length facts
  pub each : (at : ℕ) (node : StyleFacts) → slice_get facts at ≡ Some node
      → entry_in new.looks new.rest at
      ≡ option_map (entry node.key) (updated_style sheets facts restyle (kept_of old facts) at)

-- where the look of a node may be another than that of its place before, it is listed
abbrev pub KeepsOthers : Kept → Kept → Type 0
KeepsOthers old new =
    (at : ℕ) → at < length new.looks → is_among new.changed at ≡ false
    → slice_get new.looks at ≡ slice_get old.looks at

-- something is kept of every node that isn't listed
abbrev pub AreKept : List StyleFacts → List ℕ → Kept → Type 0
AreKept facts restyle kept =
    (at : ℕ) → at < length facts → is_among restyle at ≡ false → is_none (kept_of kept facts at) ≡ false

-- what is kept of every node that isn't listed is its style from nothing
abbrev pub AreRight : List SheetAt → List StyleFacts → List ℕ → Kept → Type 0
AreRight sheets facts restyle kept =
    (at : ℕ) → at < length facts → is_among restyle at ≡ false
    → (style : NodeStyle) → kept_of kept facts at ≡ Some style → Some style ≡ style_of sheets facts at

-- the styles along a chain of nodes, each by the nodes and the styles from it up
abbrev pub chain_styles : List SheetAt → List StyleFacts → List NodeStyle
chain_styles sheets [] = []
chain_styles sheets (node ∷ up) = onto (chain_style sheets (node ∷ up)) (chain_styles sheets up)
