-- What names stand for, as they are kept.
use Rattle.indexmap.specs.IndexMap.{get_by_text}
use Rattle.fx_scene_things.specs.Names.{Names as PlainNames}
use Rattle.fx_scene_things.specs.Settled.{Settled as PlainSettled, settled_of}
use Rattle.fx_scene_things.specs.Spaces.{Space as PlainSpace}
use Rattle.fx_scene_things.specs.declared.names.Names.{Names}
use Rattle.fx_scene_things.specs.declared.settled.Settled.{Settled}
use Rattle.fx_scene_things.specs.declared.spaces.Space.{Space}

abbrev pub known : Names → PlainNames
known names name = get_by_text names.things name

abbrev pub space_view : Space → PlainSpace
space_view space = record { file = space.file; names = known space.names }

abbrev pub settled_view : Settled → PlainSettled
settled_view settled = settled_of settled.place (known settled.names)
