-- What a row of a look is by the value that wins it: that value, the parent's under `inherit`, else the initial one.
use Rattle.std.specs.Prelude.{ℕ, ℤ, Bool, List, [], ◌∷◌, map, Option, Some, None}
use Rattle.fx_base.specs.declared.color.Color.{Color as Rgba}
use Rattle.fx_look.specs.Colors.{color}
use Rattle.fx_css_types.specs.declared.declarations.Paint.{Paint}
use Rattle.fx_css_types.specs.declared.declarations.Paint.TheVariants as paint
use Rattle.fx_base.specs.declared.geometry.Sides.{Sides}
use Rattle.fx_base.specs.declared.values.Value.{Value}
use Rattle.fx_base.specs.declared.values.Value.TheVariants as value
use Rattle.fx_css_types.specs.declared.declarations.Declared.TheVariants as declared
use Rattle.fx_css_types.specs.declared.declarations.FoundValue.{FoundValue}
use Rattle.fx_css_types.specs.declared.declarations.FoundValue.TheVariants as found

abbrev pub length_in : Option FoundValue → ℤ → ℤ → ℤ
length_in None unset parent = unset
length_in (Some (found.Code (value.Int n))) unset parent = n
length_in (Some (found.Declared (declared.Plain (value.Int n)))) unset parent = n
length_in (Some (found.Declared declared.Inherit)) unset parent = parent
length_in (Some _) unset parent = unset

abbrev pub truth_in : Option FoundValue → Bool → Bool → Bool
truth_in None unset parent = unset
truth_in (Some (found.Code (value.Bool b))) unset parent = b
truth_in (Some (found.Declared (declared.Plain (value.Bool b)))) unset parent = b
truth_in (Some (found.Declared declared.Inherit)) unset parent = parent
truth_in (Some _) unset parent = unset

abbrev pub sides_in : Option FoundValue → Sides → Sides → Sides
sides_in None unset parent = unset
sides_in (Some (found.Code (value.Sides s))) unset parent = s
sides_in (Some (found.Declared (declared.Plain (value.Sides s)))) unset parent = s
sides_in (Some (found.Declared declared.Inherit)) unset parent = parent
sides_in (Some _) unset parent = unset

abbrev pub layers_in : Option FoundValue → Sides → List Sides → List Sides
layers_in (Some (found.Declared (declared.SidesList layers))) unset parent = layers
layers_in (Some (found.Declared declared.Inherit)) unset parent = parent
layers_in _ unset parent = unset ∷ []

abbrev pub place_in : Option FoundValue → ℕ → ℕ → ℕ
place_in None unset parent = unset
place_in (Some (found.Code (value.Choice family place))) unset parent = place
place_in (Some (found.Declared (declared.Plain (value.Choice family place)))) unset parent = place
place_in (Some (found.Declared declared.Inherit)) unset parent = parent
place_in (Some _) unset parent = unset

-- a colour, or what a name resolves to
abbrev pub painted : (List ℕ → Option Rgba) → Paint → Option Rgba
painted resolve (paint.Color c) = Some c
painted resolve (paint.Named name) = resolve name

abbrev pub or_color : Rgba → Option Rgba → Rgba
or_color unset None = unset
or_color unset (Some c) = c

abbrev pub code_color : Value → Rgba → Rgba
code_color (value.Color c) unset = c
code_color _ unset = unset

abbrev pub color_in : (List ℕ → Option Rgba) → Option FoundValue → Rgba → Rgba → Rgba
color_in resolve None unset parent = unset
color_in resolve (Some (found.Code v)) unset parent = code_color v unset
color_in resolve (Some (found.Declared (declared.Paint p))) unset parent = or_color unset (painted resolve p)
color_in resolve (Some (found.Declared declared.Inherit)) unset parent = parent
color_in resolve (Some _) unset parent = unset

-- a layer whose name gives no colour is transparent
abbrev pub colors_of : (List ℕ → Option Rgba) → List Paint → List Rgba
colors_of resolve paints = map (λ (p : Paint). or_color (color 0 0 0 0) (painted resolve p)) paints

abbrev pub colors_in : (List ℕ → Option Rgba) → Option FoundValue → List Rgba → List Rgba
colors_in resolve (Some (found.Declared (declared.Paints paints))) parent = colors_of resolve paints
colors_in resolve (Some (found.Declared declared.Inherit)) parent = parent
colors_in resolve _ parent = []
