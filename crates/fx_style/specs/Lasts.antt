-- What is kept as the styles of other facts, and nodes that differ from these in lengths that bindings give.
use Rattle.std.specs.Prelude.{◌≡◌, ◌<◌, ℕ, false, List, length, slice_get, Option, Some}
use Rattle.std.specs.Option.{option_map}
use Rattle.fx_look.specs.declared.looks.Look.{Look}
use Rattle.fx_look.specs.declared.styles.CodeValue.{CodeValue}
use Rattle.fx_css_types.specs.declared.sheets.SheetAt.{SheetAt}
use Rattle.fx_kinds.specs.declared.facts.StyleFacts.{StyleFacts}
use Rattle.fx_select.specs.Alike.{AreAlike, IsUnasked}
use Rattle.fx_select.specs.Chains.{ParentsStandBefore, chain}
use Rattle.fx_select.specs.Listing.{Listing}
use Rattle.fx_node_style.specs.declared.node_styles.NodeStyle.{NodeStyle}
use Rattle.fx_node_style.specs.Recoding.{AreRecoded, with_bound}
use Rattle.fx_style.specs.declared.kept.Rest.{Rest}
use Rattle.fx_style.specs.Kept.{entry, entry_in, is_among, kept_at}
use Rattle.fx_style.specs.Rules.{style_of}

-- What is kept are the styles of other facts from nothing, by the same sheets. A node that isn't listed has its style
-- from nothing, and stands below the same facts as there.
pub record AreStylesOf (sheets : List SheetAt) (facts : List StyleFacts) (restyle : List ℕ) (looks : List Look)
    (rest : List Rest) (olds : List StyleFacts) : Type 0 where
  pub before : ParentsStandBefore olds
  pub styles : (at : ℕ) (old : StyleFacts) → slice_get olds at ≡ Some old
      → entry_in looks rest at ≡ option_map (entry old.key) (style_of sheets olds at)
  pub right : (at : ℕ) → at < length facts → is_among restyle at ≡ false → (style : NodeStyle)
      → kept_at looks rest facts at ≡ Some style → Some style ≡ style_of sheets facts at
  pub chains : (at : ℕ) → at < length facts → is_among restyle at ≡ false → chain olds at ≡ chain facts at

-- a node that is another up to lengths that bindings give
pub record DiffersInLengths (old node : StyleFacts) : Type 0 where
  pub alike : node ≡ record old { codes = node.codes }
  pub codes : AreRecoded old.codes node.codes

-- a node that hangs on the parent of another one, and is it up to its key, an id for which no selector asks, and
-- lengths that bindings give
pub record IsLike (listing : Listing) (old node : StyleFacts) : Type 0 where
  pub parent : old.parent ≡ node.parent
  pub alike : AreAlike old node
  pub old_id : IsUnasked listing old
  pub node_id : IsUnasked listing node
  pub codes : AreRecoded old.codes node.codes

-- the node of a place is the one that stood there up to these
pub record IsRecodedAt (last : Option (List StyleFacts)) (facts : List StyleFacts) (at : ℕ) : Type 0 where
  pub olds : List StyleFacts
  pub given : last ≡ Some olds
  pub old : StyleFacts
  pub was : slice_get olds at ≡ Some old
  pub node : StyleFacts
  pub is : slice_get facts at ≡ Some node
  pub differs : DiffersInLengths old node

-- a style with the lengths that bindings give
abbrev pub rewritten : List CodeValue → NodeStyle → NodeStyle
rewritten codes style = record { look = with_bound codes style.look; paints = style.paints }
