-- What an update does with a node, and how far it has come.
use Rattle.std.specs.Prelude.{ℕ, ◌≡◌, ◌<◌, true, false, List, length, slice_get, Option, Some, None}
use Rattle.std.specs.Option.{option_map}
use Rattle.fx_look.specs.declared.looks.Look.{Look}
use Rattle.fx_css_types.specs.declared.sheets.SheetAt.{SheetAt}
use Rattle.fx_kinds.specs.declared.facts.StyleFacts.{StyleFacts}
use Rattle.fx_node_style.specs.declared.node_styles.NodeStyle.{NodeStyle}
use Rattle.fx_style.specs.declared.kept.Entry.{Entry}
use Rattle.fx_style.specs.declared.kept.Fresh.{Fresh}
use Rattle.fx_style.specs.declared.kept.Rest.{Rest}
use Rattle.fx_style.specs.declared.making.Left.{Left}
use Rattle.fx_style.specs.declared.making.Left.TheVariants as left
use Rattle.fx_style.specs.declared.making.Turn.{Turn}
use Rattle.fx_style.specs.Kept.{Kept, entry, entry_in, fresh_at, kept_under, planned_at}
use Rattle.fx_style.specs.Rules.{needs_by, updated_style}

-- a node that isn't listed and of which something is kept, in its own place
pub record Stays (looks : List Look) (rest : List Rest) (turn : Turn) : Type 0 where
  pub unlisted : turn.listed ≡ false
  pub may : turn.stay ≡ true
  pub style : NodeStyle
  pub here : entry_in looks rest turn.at ≡ Some (entry turn.key style)
  pub kept : kept_under looks rest turn.key ≡ Some style

-- what is left of a node is what is kept of it, unless it is to be styled anew
abbrev pub IsLeft : List Look → List Rest → Turn → NodeStyle → Left → Type 0
IsLeft looks rest turn draft left.Stays = Stays looks rest turn
IsLeft looks rest turn draft left.Copied = (turn.listed ≡ false) × (kept_under looks rest turn.key ≡ Some draft)
IsLeft looks rest turn draft left.Nothing = needs_by turn.listed (kept_under looks rest turn.key) ≡ true

-- the places below one have their keys and their styles of the update
pub record AreRightBelow (sheets : List SheetAt) (facts : List StyleFacts) (restyle : List ℕ)
    (kept : ℕ → Option NodeStyle) (looks : List Look) (rest : List Rest) (fresh : List Fresh) (at : ℕ) : Type 0 where
  pub each : (j : ℕ) (node : StyleFacts) → j < at → slice_get facts j ≡ Some node
      → planned_at looks rest fresh j ≡ option_map (entry node.key) (updated_style sheets facts restyle kept j)

-- what stands at the places of these nodes has their keys, once fresh entries are put there
pub record HaveKeysOf (facts : List StyleFacts) (looks : List Look) (rest : List Rest)
    (fresh : List Fresh) : Type 0 where
  pub each : (at : ℕ) (node : StyleFacts) (e : Entry) → slice_get facts at ≡ Some node
      → planned_at looks rest fresh at ≡ Some e → e.key ≡ node.key

-- fresh entries stand in their places, and what was kept in the others
pub record ArePut (old new : Kept) (fresh : List Fresh) (count : ℕ) : Type 0 where
  pub looks : length new.looks ≡ count
  pub rest : length new.rest ≡ count
  pub each : (at : ℕ) → at < count → entry_in new.looks new.rest at ≡ planned_at old.looks old.rest fresh at
  pub others : (at : ℕ) → at < count → fresh_at fresh at ≡ None → slice_get new.looks at ≡ slice_get old.looks at
