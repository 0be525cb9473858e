-- Nodes that are like the sibling before them, of which a style was made.
use Rattle.std.specs.Prelude.{◌≡◌, ℕ, List, slice_get, Option, Some}
use Rattle.fx_kinds.specs.declared.facts.StyleFacts.{StyleFacts}
use Rattle.fx_select.specs.Listing.{Listing}
use Rattle.fx_node_style.specs.declared.node_styles.NodeStyle.{NodeStyle}
use Rattle.fx_style.specs.declared.kept.Entry.{Entry}
use Rattle.fx_style.specs.declared.kept.Fresh.{Fresh}
use Rattle.fx_style.specs.Kept.{fresh_at}
use Rattle.fx_style.specs.Lasts.{IsLike, rewritten}

-- an entry was made of the node of a place, and that of another place is like it
pub record IsMadeLike (listing : Listing) (facts : List StyleFacts) (fresh : List Fresh) (place at : ℕ)
    (made : Entry) : Type 0 where
  pub old : StyleFacts
  pub was : slice_get facts place ≡ Some old
  pub node : StyleFacts
  pub is : slice_get facts at ≡ Some node
  pub like : IsLike listing old node
  pub there : fresh_at fresh place ≡ Some made

-- the entry was made of the node of the place that is named, if one is
pub record IsOfSibling (listing : Listing) (facts : List StyleFacts) (fresh : List Fresh) (before : Option ℕ) (at : ℕ)
    (made : Entry) : Type 0 where
  pub place : ℕ
  pub named : before ≡ Some place
  pub made_like : IsMadeLike listing facts fresh place at made

-- a style is that of such an entry with the lengths that bindings give to the node
pub record HasStyleOf (listing : Listing) (facts : List StyleFacts) (fresh : List Fresh) (before : Option ℕ) (at : ℕ)
    (draft : NodeStyle) : Type 0 where
  pub made : Entry
  pub sibling : IsOfSibling listing facts fresh before at made
  pub style : draft ≡ rewritten sibling.made_like.node.codes made.style
