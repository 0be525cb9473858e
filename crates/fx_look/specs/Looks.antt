-- The look of a node before any declaration or property sets it.
use Rattle.std.specs.Prelude.{ℕ, true, false, [], ◌∷◌, pos, negsuc}
use Rattle.fx_look.specs.Colors.{color}
use Rattle.fx_look.specs.Insets.{sides}
use Rattle.fx_look.specs.declared.looks.Look.{Look}

abbrev pub initial_look : ℕ → Look
initial_look alignment = record {
  padding = sides (pos 0) (pos 0) (pos 0) (pos 0);
  alignment = alignment;
  spacing = pos 0;
  hgap = pos 0;
  vgap = pos 0;
  fill_width = true;
  fill_height = true;
  min_width = negsuc 0;
  min_height = negsuc 0;
  pref_width = negsuc 0;
  pref_height = negsuc 0;
  max_width = negsuc 0;
  max_height = negsuc 0;
  background_color = [];
  background_insets = sides (pos 0) (pos 0) (pos 0) (pos 0) ∷ [];
  border_color = [];
  border_width = sides (pos 1) (pos 1) (pos 1) (pos 1) ∷ [];
  border_insets = sides (pos 0) (pos 0) (pos 0) (pos 0) ∷ [];
  text_fill = color 0 0 0 255;
  font_size = pos 12;
  wrap_text = false;
  visibility = true;
}
