-- What the code's properties stand for.
use Rattle.std.specs.Option.{option_map}
use Rattle.fx_base.specs.declared.kinds.Family.TheVariants.{Pos as PosFamily}
use Rattle.fx_base.specs.declared.values.Value.{Value}
use Rattle.fx_base.specs.declared.values.Value.TheVariants as value
use Rattle.fx_kinds.specs.declared.classes.Class.{Class}
use Rattle.fx_kinds.specs.declared.property_table.Property.{Property}
use Rattle.fx_kinds.specs.declared.property_table.FirstValue.{FirstValue}
use Rattle.fx_kinds.specs.declared.property_table.FirstValue.TheVariants as initial
use Rattle.fx_kinds.specs.Presets.{preset_value}
use Rattle.fx_kinds.specs.Properties.{PropertyRow, ListedProperty, listed, is_button, initial_alignment}

abbrev pub listed_property : Property → ListedProperty
listed_property p = record {
  name = p.name.now;
  kind = p.kind;
  read_only = p.read_only;
  styled = option_map (λ style. style.0) p.styled;
}

abbrev pub initial_value : Class → FirstValue → Value
initial_value c (initial.Always preset) = preset_value preset
initial_value c initial.FocusTraversable = value.Bool (is_button c)
initial_value c initial.Alignment = value.Choice PosFamily (initial_alignment c)

-- a property with what it holds at first, as the code lists it and as the table has it
abbrev pub listed_with : Class → Property → ListedProperty × Value
listed_with c p = (listed_property p, initial_value c p.initial)

abbrev pub row_with : Class → PropertyRow → ListedProperty × Value
row_with c row = (listed row, row.initial c)
