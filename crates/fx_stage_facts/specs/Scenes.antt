-- All that a frame is made of.
use Rattle.std.specs.Prelude.{Bool, List, map}
use Rattle.fx_stage_model.specs.World.{World}
use Rattle.fx_stage_facts.specs.declared.facts.Facts.{Facts}
use Rattle.fx_stage_facts.specs.Attached.{attached_keys}
use Rattle.fx_stage_facts.specs.Boxes.{box_facts}
use Rattle.fx_stage_facts.specs.Sheets.{sheets_of}
use Rattle.fx_stage_facts.specs.Styles.{style_facts}
use Rattle.fx_stage_facts.specs.Values.{is_set_disabled}

-- whether each node in the scene is disabled itself
abbrev pub disabled_flags : World → List Bool
disabled_flags world = map (is_set_disabled world) (attached_keys world)

-- the sheets, the facts of the nodes in pre-order, and the window
unfoldable pub facts_of : World → Facts
facts_of world =
    record {
      sheets = sheets_of world;
      styles = style_facts world;
      boxes = box_facts world;
      disabled = disabled_flags world;
      window = world.window;
    }
