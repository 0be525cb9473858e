-- Declarations as texts (JavaFX CSS Reference Guide): first the grammar, then the reading.
use Rattle.std.specs.Prelude.{◌≡◌, ◌≢◌, ℕ, Bool, true, false, not, ◌==◌, if◌then◌else◌, List, [], ◌∷◌, ◌++◌, codes, Option, Some, None, IsTrue, ℤ, slice_get}
use Rattle.std.specs.List.{position}
use Rattle.std.specs.Option.{option_map, option_map_or}
use Rattle.std.specs.Str.{bytes_eq}
use Rattle.fx_text.specs.Characters.{colon}
use Rattle.fx_base.specs.declared.color.Color.{Color as Rgba}
use Rattle.fx_base.specs.declared.geometry.Sides.{Sides as Insets}
use Rattle.fx_base.specs.declared.kinds.Family.TheVariants.{Pos}
use Rattle.fx_base.specs.declared.values.Value.TheVariants as value
use Rattle.fx_look.specs.declared.styles.StyleForm.{StyleForm}
use Rattle.fx_look.specs.declared.styles.StyleForm.TheVariants as form
use Rattle.fx_look.specs.Colors.{IsColor, color_at}
use Rattle.fx_look.specs.Numbers.{IsSize, size_at}
use Rattle.fx_look.specs.Insets.{IsSides, sides_at}
use Rattle.fx_css_types.specs.Limits.{form_of, row_of}
use Rattle.fx_css_types.specs.declared.declarations.Paint.{Paint}
use Rattle.fx_css_types.specs.declared.declarations.Paint.TheVariants as paint
use Rattle.fx_css_types.specs.declared.declarations.Declared.{Declared}
use Rattle.fx_css_types.specs.declared.declarations.Declared.TheVariants as declared
use Rattle.fx_css_types.specs.declared.declarations.Declaration.{Declaration}
use Rattle.fx_css_parts.specs.Texts.{is_ident, IsBetweenWhite}
use Rattle.fx_css_parts.specs.Layers.{Separated, separated_at}
use Rattle.fx_text.specs.Fronts.{front, behind}
use Rattle.fx_text.specs.Trimming.{trimmed}

-- a colour, or an identifier that is none and is looked up
pub data IsPaint : List ℕ → Paint → Type 0 where
  color : (text : List ℕ) (c : Rgba) → IsColor text c → IsPaint text (paint.Color c)
  named : (text : List ℕ) → IsTrue (is_ident text) → ((c : Rgba) → IsColor text c → ⊥) → IsPaint text (paint.Named text)

abbrev pub AreSides : List ℕ → Insets → Type 0
AreSides text s = IsSides IsSize text s

-- the constants of positions in their order, as style sheets write them
abbrev pub positions : List (List ℕ)
positions = codes "top-left" ∷ codes "top-center" ∷ codes "top-right"
    ∷ codes "center-left" ∷ codes "center" ∷ codes "center-right"
    ∷ codes "bottom-left" ∷ codes "bottom-center" ∷ codes "bottom-right" ∷ []

-- the value of a style declaration of a form, but for `inherit`
pub data IsStyled : StyleForm → List ℕ → Declared → Type 0 where
  insets : (text : List ℕ) (s : Insets) → AreSides text s → IsStyled form.Sides text (declared.Plain (value.Sides s))
  constant : (text : List ℕ) (place : ℕ) → slice_get positions place ≡ Some text
      → IsStyled form.Position text (declared.Plain (value.Choice Pos place))
  size : (text : List ℕ) (n : ℤ) → IsSize text n → IsStyled form.Size text (declared.Plain (value.Int n))
  yes : (text : List ℕ) → text ≡ codes "true" → IsStyled form.Truth text (declared.Plain (value.Bool true))
  no : (text : List ℕ) → text ≡ codes "false" → IsStyled form.Truth text (declared.Plain (value.Bool false))
  visible : (text : List ℕ) → text ≡ codes "visible" → IsStyled form.Visibility text (declared.Plain (value.Bool true))
  hidden : (text : List ℕ) → text ≡ codes "hidden" → IsStyled form.Visibility text (declared.Plain (value.Bool false))
  collapse : (text : List ℕ) → text ≡ codes "collapse"
      → IsStyled form.Visibility text (declared.Plain (value.Bool false))
  painted : (text : List ℕ) (p : Paint) → IsPaint text p → IsStyled form.Paint text (declared.Paint p)
  painted_layers : (text : List ℕ) (ps : List Paint) → Separated IsPaint text ps
      → IsStyled form.Paints text (declared.Paints ps)
  inset_layers : (text : List ℕ) (ss : List Insets) → Separated AreSides text ss
      → IsStyled form.SidesList text (declared.SidesList ss)

-- the value of a style declaration of this form, or of a declaration of any other name, which a paint gives
pub data IsDeclared : Option StyleForm → List ℕ → Declared → Type 0 where
  inherited : (f : StyleForm) (text : List ℕ) → text ≡ codes "inherit" → IsDeclared (Some f) text declared.Inherit
  styled : (f : StyleForm) (text : List ℕ) (d : Declared) → text ≢ codes "inherit" → IsStyled f text d
      → IsDeclared (Some f) text d
  other : (text : List ℕ) (p : Paint) → IsPaint text p → IsDeclared None text (declared.Paint p)

-- a name, `:` and a value, with white round each; the row is that of the name
pub record IsDeclaration (text : List ℕ) (d : Declaration) : Type 0 where
  pub before : List ℕ
  pub after : List ℕ
  pub parts : text ≡ before ++ (colon ∷ after)
  pub is_name : IsBetweenWhite (λ name n. IsTrue (is_ident name) × (n ≡ name)) before d.name
  pub is_row : d.row ≡ row_of d.name
  pub is_value : IsBetweenWhite (IsDeclared (form_of d.name)) after d.value

-- the reading

abbrev pub named_at : List ℕ → Option Paint
named_at text = if is_ident text then Some (paint.Named text) else None

abbrev pub paint_at : List ℕ → Option Paint
paint_at text = option_map_or (λ c. Some (paint.Color c)) (color_at text) (named_at text)

abbrev pub insets_at : List ℕ → Option Insets
insets_at text = sides_at size_at text

abbrev pub position_at : List ℕ → Option ℕ
position_at word = position (λ constant. bytes_eq constant word) positions

abbrev pub truth_at : List ℕ → Option Bool
truth_at word = if bytes_eq word (codes "true") then Some true
    else (if bytes_eq word (codes "false") then Some false else None)

abbrev pub visibility_at : List ℕ → Option Bool
visibility_at word = if bytes_eq word (codes "visible") then Some true
    else (if bytes_eq word (codes "hidden") then Some false
    else (if bytes_eq word (codes "collapse") then Some false else None))

abbrev pub styled_at : StyleForm → List ℕ → Option Declared
styled_at form.Sides text = option_map (λ s. declared.Plain (value.Sides s)) (insets_at text)
styled_at form.Position text = option_map (λ place. declared.Plain (value.Choice Pos place)) (position_at text)
styled_at form.Size text = option_map (λ n. declared.Plain (value.Int n)) (size_at text)
styled_at form.Truth text = option_map (λ b. declared.Plain (value.Bool b)) (truth_at text)
styled_at form.Visibility text = option_map (λ b. declared.Plain (value.Bool b)) (visibility_at text)
styled_at form.Paint text = option_map declared.Paint (paint_at text)
styled_at form.Paints text = option_map declared.Paints (separated_at paint_at text)
styled_at form.SidesList text = option_map declared.SidesList (separated_at insets_at text)

abbrev pub declared_at : Option StyleForm → List ℕ → Option Declared
declared_at None text = option_map declared.Paint (paint_at text)
declared_at (Some f) text = if bytes_eq text (codes "inherit") then Some declared.Inherit else styled_at f text

abbrev pub declaration : List ℕ → Declared → Declaration
declaration name d = record { name = name; row = row_of name; value = d }

abbrev pub with_value : List ℕ → List ℕ → Option Declaration
with_value name [] = None
with_value name (c ∷ cs) =
    if is_ident name then option_map (declaration name) (declared_at (form_of name) (trimmed cs)) else None

abbrev pub not_colon : ℕ → Bool
not_colon c = not (c == colon)

abbrev pub declaration_in : List ℕ → Option Declaration
declaration_in text = with_value (trimmed (front not_colon text)) (behind not_colon text)
