-- The rows that a look is read from, by their names in the style table.
use Rattle.std.specs.Prelude.{ℕ, List, [], ◌∷◌, codes, unwrap_or}
use Rattle.fx_look.specs.StyleRows.{style_named}

-- the place of the row of this name
abbrev row_at : List ℕ → ℕ
row_at name = unwrap_or (style_named name) 0

abbrev pub padding_row : ℕ
padding_row = row_at (codes "-fx-padding")

abbrev pub alignment_row : ℕ
alignment_row = row_at (codes "-fx-alignment")

abbrev pub spacing_row : ℕ
spacing_row = row_at (codes "-fx-spacing")

abbrev pub hgap_row : ℕ
hgap_row = row_at (codes "-fx-hgap")

abbrev pub vgap_row : ℕ
vgap_row = row_at (codes "-fx-vgap")

abbrev pub fill_width_row : ℕ
fill_width_row = row_at (codes "-fx-fill-width")

abbrev pub fill_height_row : ℕ
fill_height_row = row_at (codes "-fx-fill-height")

abbrev pub min_width_row : ℕ
min_width_row = row_at (codes "-fx-min-width")

abbrev pub min_height_row : ℕ
min_height_row = row_at (codes "-fx-min-height")

abbrev pub pref_width_row : ℕ
pref_width_row = row_at (codes "-fx-pref-width")

abbrev pub pref_height_row : ℕ
pref_height_row = row_at (codes "-fx-pref-height")

abbrev pub max_width_row : ℕ
max_width_row = row_at (codes "-fx-max-width")

abbrev pub max_height_row : ℕ
max_height_row = row_at (codes "-fx-max-height")

abbrev pub background_color_row : ℕ
background_color_row = row_at (codes "-fx-background-color")

abbrev pub background_insets_row : ℕ
background_insets_row = row_at (codes "-fx-background-insets")

abbrev pub border_color_row : ℕ
border_color_row = row_at (codes "-fx-border-color")

abbrev pub border_width_row : ℕ
border_width_row = row_at (codes "-fx-border-width")

abbrev pub border_insets_row : ℕ
border_insets_row = row_at (codes "-fx-border-insets")

abbrev pub text_fill_row : ℕ
text_fill_row = row_at (codes "-fx-text-fill")

abbrev pub font_size_row : ℕ
font_size_row = row_at (codes "-fx-font-size")

abbrev pub wrap_text_row : ℕ
wrap_text_row = row_at (codes "-fx-wrap-text")

abbrev pub visibility_row : ℕ
visibility_row = row_at (codes "visibility")

abbrev pub rows : List ℕ
rows = padding_row ∷ alignment_row ∷ spacing_row ∷ hgap_row ∷ vgap_row ∷ fill_width_row ∷ fill_height_row
    ∷ min_width_row ∷ min_height_row ∷ pref_width_row ∷ pref_height_row ∷ max_width_row ∷ max_height_row
    ∷ background_color_row ∷ background_insets_row ∷ border_color_row ∷ border_width_row ∷ border_insets_row
    ∷ text_fill_row ∷ font_size_row ∷ wrap_text_row ∷ visibility_row ∷ []
