-- The last scene as it is kept.
use Rattle.std.specs.Prelude.{Option}
use Rattle.std.specs.Option.{option_map}
use Rattle.fx_pulse_model.specs.Scenes.{Scene}
use Rattle.fx_pulse_touched.specs.Sights.{scene_of}
use Rattle.fx_pulse_touched.specs.declared.scenes.SceneLists.{SceneLists}

abbrev pub last_of : Option SceneLists → Option Scene
last_of last = option_map scene_of last
