-- The look of a node: each field by the row of the style table that has its value.
use Rattle.std.specs.Prelude.{ℕ, true, false, List, Option, pos, negsuc}
use Rattle.fx_base.specs.declared.color.Color.{Color as Rgba}
use Rattle.fx_look.specs.Colors.{color}
use Rattle.fx_look.specs.Insets.{sides}
use Rattle.fx_base.specs.declared.geometry.Sides.{Sides}
use Rattle.fx_node_style.specs.declared.looking.Lengths.{Lengths}
use Rattle.fx_node_style.specs.declared.looking.Spaces.{Spaces}
use Rattle.fx_node_style.specs.declared.looking.Truths.{Truths}
use Rattle.fx_look.specs.declared.looks.Look.{Look}
use Rattle.fx_css_types.specs.declared.declarations.FoundValue.{FoundValue}
use Rattle.fx_node_style.specs.declared.looking.Rows.{Rows}
use Rattle.fx_node_style.specs.Rows as spec
use Rattle.fx_node_style.specs.Kinds.{color_in, colors_in, layers_in, length_in, place_in, sides_in, truth_in}
use Rattle.fx_node_style.specs.Values.{row_value}

abbrev pub rows_of : Rows → ℕ → Option FoundValue
rows_of rows row = row_value rows.sheets.now rows.matched.now rows.codes.now row

abbrev pub no_sides : Sides
no_sides = sides (pos 0) (pos 0) (pos 0) (pos 0)

abbrev pub lengths_of : (ℕ → Option FoundValue) → Look → Lengths
lengths_of row parent = record {
  min_width = length_in (row spec.min_width_row) (negsuc 0) parent.min_width;
  min_height = length_in (row spec.min_height_row) (negsuc 0) parent.min_height;
  pref_width = length_in (row spec.pref_width_row) (negsuc 0) parent.pref_width;
  pref_height = length_in (row spec.pref_height_row) (negsuc 0) parent.pref_height;
  max_width = length_in (row spec.max_width_row) (negsuc 0) parent.max_width;
  max_height = length_in (row spec.max_height_row) (negsuc 0) parent.max_height;
}

-- without a winner the font size is the parent's
abbrev pub spaces_of : (ℕ → Option FoundValue) → Look → Spaces
spaces_of row parent = record {
  spacing = length_in (row spec.spacing_row) (pos 0) parent.spacing;
  hgap = length_in (row spec.hgap_row) (pos 0) parent.hgap;
  vgap = length_in (row spec.vgap_row) (pos 0) parent.vgap;
  font_size = length_in (row spec.font_size_row) parent.font_size parent.font_size;
}

abbrev pub truths_of : (ℕ → Option FoundValue) → Look → Truths
truths_of row parent = record {
  fill_width = truth_in (row spec.fill_width_row) true parent.fill_width;
  fill_height = truth_in (row spec.fill_height_row) true parent.fill_height;
  wrap_text = truth_in (row spec.wrap_text_row) false parent.wrap_text;
  visibility = truth_in (row spec.visibility_row) true parent.visibility;
}

-- the layers of a look, and the colour of its text
pub record Layers : Type 0 where
  pub background_color : List Rgba
  pub background_insets : List Sides
  pub border_color : List Rgba
  pub border_width : List Sides
  pub border_insets : List Sides
  pub text_fill : Rgba

abbrev pub layers_on : Look → Layers
layers_on look = record {
  background_color = look.background_color;
  background_insets = look.background_insets;
  border_color = look.border_color;
  border_width = look.border_width;
  border_insets = look.border_insets;
  text_fill = look.text_fill;
}

abbrev pub layers_of : (ℕ → Option FoundValue) → (List ℕ → Option Rgba) → Look → Layers
layers_of row resolve parent = record {
  background_color = colors_in resolve (row spec.background_color_row) parent.background_color;
  background_insets = layers_in (row spec.background_insets_row) no_sides parent.background_insets;
  border_color = colors_in resolve (row spec.border_color_row) parent.border_color;
  border_width = layers_in (row spec.border_width_row) (sides (pos 1) (pos 1) (pos 1) (pos 1)) parent.border_width;
  border_insets = layers_in (row spec.border_insets_row) no_sides parent.border_insets;
  text_fill = color_in resolve (row spec.text_fill_row) (color 0 0 0 255) parent.text_fill;
}

abbrev pub joined : Sides → ℕ → Spaces → Lengths → Truths → Layers → Look
joined padding alignment spaces lengths truths layers = record {
  padding = padding;
  alignment = alignment;
  spacing = spaces.spacing;
  hgap = spaces.hgap;
  vgap = spaces.vgap;
  fill_width = truths.fill_width;
  fill_height = truths.fill_height;
  min_width = lengths.min_width;
  min_height = lengths.min_height;
  pref_width = lengths.pref_width;
  pref_height = lengths.pref_height;
  max_width = lengths.max_width;
  max_height = lengths.max_height;
  background_color = layers.background_color;
  background_insets = layers.background_insets;
  border_color = layers.border_color;
  border_width = layers.border_width;
  border_insets = layers.border_insets;
  text_fill = layers.text_fill;
  font_size = spaces.font_size;
  wrap_text = truths.wrap_text;
  visibility = truths.visibility;
}

-- the look of a node by the values of its rows, and by its parent's look
unfoldable pub look_of : (ℕ → Option FoundValue) → (List ℕ → Option Rgba) → ℕ → Look → Look
look_of row resolve alignment parent =
    joined (sides_in (row spec.padding_row) no_sides parent.padding)
    (place_in (row spec.alignment_row) alignment parent.alignment)
    (spaces_of row parent) (lengths_of row parent) (truths_of row parent) (layers_of row resolve parent)
