-- The values that presets stand for.
use Rattle.std.specs.Prelude.{[]}
use Rattle.fx_base.specs.declared.values.Value.{Value}
use Rattle.fx_base.specs.declared.values.Value.TheVariants as value
use Rattle.fx_look.specs.Insets.{sides}
use Rattle.fx_kinds.specs.declared.presets.Preset.{Preset}
use Rattle.fx_kinds.specs.declared.presets.Preset.TheVariants as preset

abbrev pub preset_value : Preset → Value
preset_value (preset.Int number) = value.Int number
preset_value (preset.Bool truth) = value.Bool truth
preset_value preset.EmptyText = value.Text []
preset_value (preset.Choice family place) = value.Choice family place
preset_value (preset.Color color) = value.Color color
preset_value (preset.EvenSides length) = value.Sides (sides length length length length)
