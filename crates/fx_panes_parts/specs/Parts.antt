-- The parts of a length, and how much longer or shorter each may become.
-- Cited by src/parted.rt and by the track rule.
use Rattle.std.specs.Prelude.{ℕ, ◌+◌, ◌-◌, ◌==◌, List, [], ◌∷◌, map, max, if◌then◌else◌, unwrap_or}
use Rattle.fx_panes_parts.specs.declared.axes.ChildAxis.{ChildAxis}
use Rattle.fx_panes_parts.specs.declared.parted.Room.{Room}
use Rattle.fx_panes_parts.specs.declared.parted.Room.TheVariants.{Above, Below}
use Rattle.fx_panes_parts.specs.declared.parts.Part.{Part}

-- a length of a child with its margins
abbrev pub outer : ChildAxis → ℕ → ℕ
outer child length = length + (child.before + child.after)

-- the part of a child; without a priority it has NEVER, the number 0
unfoldable pub part_of : ChildAxis → Part
part_of child = record {
  min = outer child child.extent.min;
  pref = outer child child.extent.pref;
  max = outer child child.extent.max;
  priority = unwrap_or child.grow 0;
}

-- how much shorter a part may become, or how much longer where it has the priority
abbrev pub room_in : Room → Part → ℕ
room_in Below part = part.pref - part.min
room_in (Above priority) part = if part.priority == priority then part.max - part.pref else 0

-- of each part, in order
abbrev pub rooms : Room → List Part → List ℕ
rooms room parts = map (room_in room) parts

-- the greatest of these lengths, or 0
abbrev pub greatest_of : List ℕ → ℕ
greatest_of [] = 0
greatest_of (length ∷ lengths) = max length (greatest_of lengths)
