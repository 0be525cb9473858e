-- What is known in a document so far, as definitions have it.
use Rattle.std.specs.Prelude.{List}
use Rattle.fx_scene_load.specs.Reading.{Desk as PlainDesk}
use Rattle.fx_scene_load.specs.declared.desks.Desk.{Desk}
use Rattle.fx_scene_outline.specs.Pieces.{Piece as PlainPiece}
use Rattle.fx_scene_things.specs.Known.{known}

-- a desk behind these pieces
abbrev pub desk_view : List PlainPiece → Desk → PlainDesk
desk_view before d = record { names = known d.names; lanes = d.lanes.items; before = before; nodes = d.nodes.items }
