-- The scene that is lent, and the one that lists hold.
use Rattle.fx_pulse_model.specs.Scenes.{Scene}
use Rattle.fx_pulse_touched.specs.declared.scenes.Scene.{Scene as Lent}
use Rattle.fx_pulse_touched.specs.declared.scenes.SceneLists.{SceneLists}

abbrev pub seen : Lent → Scene
seen s = record { sheets = s.sheets.now; styles = s.styles.now; boxes = s.boxes.now; disabled = s.disabled.now }

abbrev pub scene_of : SceneLists → Scene
scene_of l = record { sheets = l.sheets; styles = l.styles; boxes = l.boxes; disabled = l.disabled }
