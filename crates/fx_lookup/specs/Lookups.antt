-- Looked-up colours (JavaFX CSS Reference Guide, "Looked-up Colors"): a name is searched on the node being styled and
-- then on its ancestors; what it leads to is searched again from the node being styled.
use Rattle.std.specs.Prelude.{ℕ, zero, suc, ◌≡◌, Bool, false, List, [], ◌∷◌, ◌++◌, map, length, Option, Some, None, if◌then◌else◌}
use Rattle.std.specs.List.{list_any, flat_map}
use Rattle.std.specs.Str.{bytes_eq}
use Rattle.fx_base.specs.declared.color.Color.{Color as Rgba}
use Rattle.fx_css_types.specs.declared.declarations.Paint.{Paint}
use Rattle.fx_css_types.specs.declared.declarations.Paint.TheVariants.{Color, Named}
use Rattle.fx_lookup.specs.declared.named.NamedPaint.{NamedPaint}

-- what a node has for a name
abbrev pub paint_under : List NamedPaint → List ℕ → Option (Option Paint)
paint_under [] name = None
paint_under (p ∷ ps) name = if bytes_eq p.name name then Some p.paint else paint_under ps name

abbrev pub or_above : Option (Option Paint) → Option Paint → Option Paint
or_above (Some found) above = found
or_above None above = above

-- the paint of a name on the first node that has anything for it
abbrev pub nearest : List (List NamedPaint) → List ℕ → Option Paint
nearest [] name = None
nearest (node ∷ above) name = or_above (paint_under node name) (nearest above name)

abbrev pub has_name : List (List ℕ) → List ℕ → Bool
has_name names name = list_any (λ (one : List ℕ). bytes_eq one name) names

-- a name that wasn't visited leads to a colour: the nearest paint of it is the colour, or a name that leads to it
pub data LeadsTo (chain : List (List NamedPaint)) : List (List ℕ) → List ℕ → Rgba → Type 0 where
  at_once : (visited : List (List ℕ)) (name : List ℕ) (color : Rgba) → has_name visited name ≡ false
      → nearest chain name ≡ Some (Color color) → LeadsTo chain visited name color
  by_name : (visited : List (List ℕ)) (name next : List ℕ) (color : Rgba) → has_name visited name ≡ false
      → nearest chain name ≡ Some (Named next) → LeadsTo chain (visited ++ name ∷ []) next color
      → LeadsTo chain visited name color

-- the colour as a function: a law says that it is the one that the name leads to

-- a colour ends the search, a name goes on
abbrev pub along : Option Paint → (List ℕ → Option Rgba) → Option Rgba
along None on = None
along (Some (Color color)) on = Some color
along (Some (Named name)) on = on name

-- through names that weren't visited before, in so many steps
unfoldable pub resolved_in : ℕ → List (List NamedPaint) → List (List ℕ) → List ℕ → Option Rgba
resolved_in zero chain visited name = None
resolved_in (suc most) chain visited name =
    if has_name visited name then None else along (nearest chain name) (resolved_in most chain (visited ++ name ∷ []))

abbrev pub names_in : List (List NamedPaint) → List (List ℕ)
names_in chain = flat_map (map (λ (p : NamedPaint). p.name)) chain

-- each step but the last visits a name that some node has
abbrev pub steps_in : List (List NamedPaint) → ℕ
steps_in chain = suc (length (names_in chain))

-- the colour of a name, if it leads to one
abbrev pub resolved : List (List NamedPaint) → List ℕ → Option Rgba
resolved chain name = resolved_in (steps_in chain) chain [] name
