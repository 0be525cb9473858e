-- The style declarations in their order, with the form of the value of each and the property that it styles:
-- a choice among those of the JavaFX CSS Reference Guide.
use Rattle.std.specs.Prelude.{ℕ, List, [], ◌∷◌, codes, Option, Some, None}
use Rattle.fx_base.specs.declared.kinds.Family.TheVariants.{Pos}
use Rattle.fx_base.specs.declared.kinds.Kind.{Kind}
use Rattle.fx_base.specs.declared.kinds.Kind.TheVariants as kind
use Rattle.fx_look.specs.declared.styles.StyleForm.{StyleForm}
use Rattle.fx_look.specs.declared.styles.StyleForm.TheVariants as form

pub record StyleRow : Type 0 where
  pub name : List ℕ
  pub form : StyleForm
  pub property : Option (List ℕ)

abbrev styling : List ℕ → StyleForm → List ℕ → StyleRow
styling name form property = record { name = name; form = form; property = Some property }

abbrev decorating : List ℕ → StyleForm → StyleRow
decorating name form = record { name = name; form = form; property = None }

unfoldable pub styles : List StyleRow
styles = styling (codes "-fx-padding") form.Sides (codes "padding")
    ∷ styling (codes "-fx-alignment") form.Position (codes "alignment")
    ∷ styling (codes "-fx-spacing") form.Size (codes "spacing")
    ∷ styling (codes "-fx-hgap") form.Size (codes "hgap")
    ∷ styling (codes "-fx-vgap") form.Size (codes "vgap")
    ∷ styling (codes "-fx-fill-width") form.Truth (codes "fillWidth")
    ∷ styling (codes "-fx-fill-height") form.Truth (codes "fillHeight")
    ∷ styling (codes "-fx-min-width") form.Size (codes "minWidth")
    ∷ styling (codes "-fx-min-height") form.Size (codes "minHeight")
    ∷ styling (codes "-fx-pref-width") form.Size (codes "prefWidth")
    ∷ styling (codes "-fx-pref-height") form.Size (codes "prefHeight")
    ∷ styling (codes "-fx-max-width") form.Size (codes "maxWidth")
    ∷ styling (codes "-fx-max-height") form.Size (codes "maxHeight")
    ∷ decorating (codes "-fx-background-color") form.Paints
    ∷ decorating (codes "-fx-background-insets") form.SidesList
    ∷ decorating (codes "-fx-border-color") form.Paints
    ∷ decorating (codes "-fx-border-width") form.SidesList
    ∷ decorating (codes "-fx-border-insets") form.SidesList
    ∷ styling (codes "-fx-text-fill") form.Paint (codes "textFill")
    ∷ styling (codes "-fx-font-size") form.Size (codes "fontSize")
    ∷ styling (codes "-fx-wrap-text") form.Truth (codes "wrapText")
    ∷ styling (codes "visibility") form.Visibility (codes "visible")
    ∷ []

-- the kind of the values that a declaration of a form gives to its property
abbrev pub kind_of_form : StyleForm → Option Kind
kind_of_form form.Sides = Some kind.Sides
kind_of_form form.Position = Some (kind.Choice Pos)
kind_of_form form.Size = Some kind.Int
kind_of_form form.Truth = Some kind.Bool
kind_of_form form.Visibility = Some kind.Bool
kind_of_form form.Paint = Some kind.Color
kind_of_form form.Paints = None
kind_of_form form.SidesList = None
