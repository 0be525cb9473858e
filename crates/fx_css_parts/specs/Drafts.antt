-- A compound as far as it is read, and how far the parts of a text are cut and counted.
use Rattle.std.specs.Prelude.{◌≡◌, ℕ, ◌+◌, ◌-◌, Bool, not, ◌&&◌, ◌||◌, true, false, ◌==◌, nat_le, if◌then◌else◌, List, [], ◌∷◌, ◌++◌, length, Option, Some, None, slice_get}
use Rattle.std.specs.List.{list_all, find}
use Rattle.std.specs.Option.{option_map, unwrap_or}
use Rattle.fx_text.specs.Characters.{colon, comma, full_stop, left_parenthesis, number_sign}
use Rattle.fx_look.specs.StyleRows.{style_at, style_row}
use Rattle.fx_css_types.specs.declared.selectors.Combinator.{Combinator}
use Rattle.fx_css_types.specs.declared.selectors.Compound.{Compound}
use Rattle.fx_css_types.specs.declared.selectors.Selector.{Selector}
use Rattle.fx_css_parts.specs.declared.limits.Count.{Count}
use Rattle.fx_css_parts.specs.declared.limits.LayerCount.{LayerCount}
use Rattle.fx_css_parts.specs.declared.naming.Known.{Known}
use Rattle.fx_css_parts.specs.Layers.{separates, depth_behind}
use Rattle.fx_css_parts.specs.Selecting.{Part, is_part, names_behind, is_gap}
use Rattle.fx_css_parts.specs.Limits.{starts, is_past, layer_starts}
use Rattle.fx_text.specs.Classes.{is_white}

abbrev pub with_names : Compound → List Part → Compound
with_names n ps = record {
  combinator = n.combinator;
  kind = n.kind;
  classes = n.classes ++ names_behind full_stop ps;
  ids = n.ids ++ names_behind number_sign ps;
  pseudos = n.pseudos ++ names_behind colon ps;
}

-- the names of parts behind those that are read
abbrev pub names_of : Compound → List Part → Option Compound
names_of n ps = if list_all is_part ps then Some (with_names n ps) else None

-- what it became, if there was one more
abbrev pub with_one : {A : Type 0} → Bool → A → Option A
with_one more x = if more then Some x else None

-- a compound without names
abbrev pub nameless : Option Combinator → Option (List ℕ) → Compound
nameless combinator kind = record { combinator = combinator; kind = kind; classes = []; ids = []; pseudos = [] }

-- behind a byte, or none at the first byte of a part past its limit
abbrev pub count_behind : Count → ℕ → Option Count
count_behind n c = if c == comma then Some (record { selector = n.selector + 1; compound = 0; within = false })
    else (if is_gap c then Some (record { selector = n.selector; compound = n.compound; within = false })
    else (if n.within then Some (record { selector = n.selector; compound = n.compound; within = true })
    else (if nat_le 64 n.selector || nat_le 16 n.compound then None
    else Some (record { selector = n.selector; compound = n.compound + 1; within = true }))))

abbrev pub past_from : Count → ℕ → List ℕ → Option ℕ
past_from n place text = option_map (λ s. s.place) (find is_past (starts n.within n.selector n.compound place text))

-- behind a byte, or none at the first byte of the layer that is past the limit
abbrev pub layer_behind : LayerCount → ℕ → Option LayerCount
layer_behind n c = if separates n.depth c then Some (record { within = false; depth = 0; left = n.left })
    else (if n.within || is_white c
    then Some (record { within = n.within; depth = depth_behind n.depth c; left = n.left })
    else (if n.left == 0 then None
    else Some (record { within = true; depth = depth_behind n.depth c; left = n.left - 1 })))

abbrev pub layer_from : LayerCount → ℕ → List ℕ → Option ℕ
layer_from n place value = slice_get (layer_starts n.within n.depth place value) n.left

-- before the first comma or parenthesis that opens, nothing is cut and nothing is nested
abbrev pub is_flat : ℕ → Bool
is_flat c = not (c == comma) && not (c == left_parenthesis)

-- selectors of which none is past a limit
abbrev pub is_short : Selector → Bool
is_short s = nat_le (length s.compounds) 16

abbrev pub are_few : List Selector → Bool
are_few selectors = nat_le (length selectors) 64 && list_all is_short selectors

-- the text begins with the name and `:` of this style declaration, and the value is behind them
pub record IsKnown (text : List ℕ) (known : Known) : Type 0 where
  pub row : style_at known.row.0 ≡ Some (style_row known.style.now)
  pub parts : text ≡ known.style.now.name.now ++ (colon ∷ known.value.now)

-- the second letter is as one of the style declarations has it
abbrev pub may_be_style : List ℕ → Bool
may_be_style name = (unwrap_or (slice_get name 1) 0 == 102) || (unwrap_or (slice_get name 1) 0 == 105)
