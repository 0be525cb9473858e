-- The properties that a frame asks for by name, whose places are kept for a class.
use Rattle.std.specs.Prelude.{ℕ, ◌≡◌, ◌+◌, List, [], ◌∷◌, ◌++◌, codes, length, Option, None, Some}
use Rattle.fx_kinds.specs.declared.classes.Class.{Class}
use Rattle.fx_kinds.specs.Properties.{ListedProperty, properties_of}
use Rattle.fx_stage_model.specs.Looking.{place_of}
use Rattle.fx_stage_facts.specs.declared.places.Around.{Around}
use Rattle.fx_stage_facts.specs.declared.places.Asked.{Asked}
use Rattle.fx_stage_facts.specs.declared.places.Asked.TheVariants as asked
use Rattle.fx_stage_facts.specs.declared.places.Styled.{Styled}

abbrev pub name_of : Asked → List ℕ
name_of asked.Id = codes "id"
name_of asked.Disable = codes "disable"
name_of asked.Text = codes "text"
name_of asked.LayoutX = codes "layoutX"
name_of asked.LayoutY = codes "layoutY"
name_of asked.FocusTraversable = codes "focusTraversable"
name_of asked.Width = codes "width"
name_of asked.Height = codes "height"

-- a property at this place, if a declaration styles it
abbrev pub styled_at : ℕ → Option ℕ → List Styled
styled_at place None = []
styled_at place (Some style) = record { place = place; style = record { 0 = style } } ∷ []

-- those of these properties that declarations style, where they stand from this place on
abbrev pub styled_from : ℕ → List ListedProperty → List Styled
styled_from place [] = []
styled_from place (property ∷ rest) = styled_at place property.styled ++ styled_from (place + 1) rest

abbrev pub styled_of : Class → List Styled
styled_of class = styled_from 0 (properties_of class)

-- the properties around the width and the height of a class, which stand side by side
pub record IsAround (class : Class) (around : Around) : Type 0 where
  pub width : place_of class (codes "width") ≡ Some around.front
  pub height : place_of class (codes "height") ≡ Some (around.front + 1)
  pub long : around.front + 2 + around.behind ≡ length (properties_of class)
