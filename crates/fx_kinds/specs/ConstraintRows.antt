-- What the code's constraint rows stand for.
use Rattle.std.specs.Option.{option_map}
use Rattle.fx_kinds.specs.declared.constraints.ConstraintRow.{ConstraintRow}
use Rattle.fx_kinds.specs.Constraints.{ConstraintEntry}
use Rattle.fx_kinds.specs.Presets.{preset_value}

abbrev pub constraint_entry : ConstraintRow → ConstraintEntry
constraint_entry row = record {
  name = row.name.now;
  kind = row.kind;
  range = row.range;
  default = option_map preset_value row.default;
}
