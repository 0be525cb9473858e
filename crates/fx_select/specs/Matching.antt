-- Matching of selectors (Selectors Level 3, "Combinators" and "Simple selectors"): by recursion on the compounds from
-- the last, over a node and its ancestors.
use Rattle.std.specs.Prelude.{ℕ, ◌≡◌, Bool, true, false, ◌&&◌, ◌||◌, List, [], ◌∷◌, reverse, Option, Some, None}
use Rattle.std.specs.List.{list_any, list_all}
use Rattle.std.specs.Str.{bytes_eq}
use Rattle.fx_css_types.specs.declared.selectors.Combinator.{Combinator}
use Rattle.fx_css_types.specs.declared.selectors.Combinator.TheVariants.{Descendant, Child}
use Rattle.fx_css_types.specs.declared.selectors.Compound.{Compound}
use Rattle.fx_css_types.specs.declared.selectors.Selector.{Selector}
use Rattle.fx_kinds.specs.declared.classes.Class.{Class}
use Rattle.fx_kinds.specs.declared.facts.StyleFacts.{StyleFacts}
use Rattle.fx_kinds.specs.Classes.{name_of}
use Rattle.fx_select.specs.declared.matching.Match.{Match}
use Rattle.fx_select.specs.declared.matching.Match.TheVariants.{Here, NotHere, Nowhere}

-- the text is one of these, letter for letter
abbrev pub has_text : List (List ℕ) → List ℕ → Bool
has_text texts text = list_any (λ (one : List ℕ). bytes_eq one text) texts

-- there is no type, or it is the simple name of the class
abbrev pub fits_kind : Option (List ℕ) → Class → Bool
fits_kind None class = true
fits_kind (Some kind) class = bytes_eq kind (name_of class)

-- the node has the type, each of the classes, each id, and each of the pseudo-classes
unfoldable pub fits : Compound → StyleFacts → Bool
fits compound node =
    fits_kind compound.kind node.class
    && list_all (has_text node.classes) compound.classes
    && list_all (λ (id : List ℕ). bytes_eq id node.id) compound.ids
    && list_all (has_text node.pseudos) compound.pseudos

-- it holds of a chain, or of what is left of it further up
unfoldable pub somewhere : (List StyleFacts → Bool) → List StyleFacts → Bool
somewhere holds [] = false
somewhere holds (node ∷ above) = holds (node ∷ above) || somewhere holds above

-- what stands before a compound matches by its combinator: at the parent, or at some ancestor; nothing stands before
-- the first compound, which has no combinator
abbrev pub matches_before : Option Combinator → (List StyleFacts → Bool) → List StyleFacts → Bool
matches_before None before above = true
matches_before (Some Child) before above = before above
matches_before (Some Descendant) before above = somewhere before above

-- these compounds, the last of them first, match a node with the nodes above it
unfoldable pub matches_up : List Compound → List StyleFacts → Bool
matches_up [] nodes = false
matches_up (last ∷ before) [] = false
matches_up (last ∷ before) (node ∷ above) = fits last node && matches_before last.combinator (matches_up before) above

-- the selector matches the first node of a chain
abbrev pub matches_chain : Selector → List StyleFacts → Bool
matches_chain selector nodes = matches_up (reverse selector.compounds) nodes

-- what a try at a node tells of it and its ancestors
abbrev pub IsVerdict : (List StyleFacts → Bool) → List StyleFacts → Match → Type 0
IsVerdict holds nodes Here = holds nodes ≡ true
IsVerdict holds nodes NotHere = holds nodes ≡ false
IsVerdict holds nodes Nowhere = (holds nodes ≡ false) × (somewhere holds nodes ≡ false)
