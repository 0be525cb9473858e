-- What a node is laid out by: the facts that its pane is asked with, of its box and its look.
-- Cited by src/boxes.rt and by the layout of a tree.
use Rattle.fx_base.specs.declared.facts.PaneFacts.{PaneFacts}
use Rattle.fx_base.specs.declared.facts.Sizes.{Sizes}
use Rattle.fx_kinds.specs.declared.facts.BoxFacts.{BoxFacts}
use Rattle.fx_look.specs.declared.looks.Look.{Look}
use Rattle.fx_insets.specs.Insets.{insets_of}
use Rattle.fx_layout_parts.specs.declared.rules.NodeBox.{NodeBox}
use Rattle.fx_layout_parts.specs.Rules.{rule_of}

-- the six sizes of a look as they stand
abbrev pub own_sizes : Look → Sizes
own_sizes look = record {
  min_w = look.min_width;
  pref_w = look.pref_width;
  max_w = look.max_width;
  min_h = look.min_height;
  pref_h = look.pref_height;
  max_h = look.max_height;
}

abbrev pub pane_facts : BoxFacts → Look → PaneFacts
pane_facts node look = record {
  own = own_sizes look;
  insets = insets_of look;
  alignment = look.alignment;
  spacing = look.spacing;
  hgap = look.hgap;
  vgap = look.vgap;
  fill_width = look.fill_width;
  fill_height = look.fill_height;
  font_size = look.font_size;
  text = node.text;
  wrap = look.wrap_text;
  columns = node.columns;
  rows = node.rows;
}

abbrev pub box_of : BoxFacts → Look → NodeBox
box_of node look = record { rule = rule_of node.class; facts = pane_facts node look }
