-- What a graph tells of a known name.
use Rattle.std.specs.Prelude.{ℕ, ◌||◌, Bool, true, false, if◌then◌else◌, List, Option, None, Some}
use Rattle.fx_base.specs.declared.kinds.Kind.{Kind}
use Rattle.fx_base.specs.declared.values.Value.{Value}
use Rattle.fx_graph_model.specs.declared.entries.Entry.{Entry}
use Rattle.fx_graph_model.specs.declared.entries.Origin.{Origin}
use Rattle.fx_graph_model.specs.Eager.{eager}
use Rattle.fx_graph_model.specs.Refusals.{kind_at}
use Rattle.fx_graph_model.specs.Unread.{marked}
use Rattle.fx_graph_model.specs.Uses.{entry_of, unknown_in}

-- the kind of a known name
abbrev pub known_kind : List Entry → ℕ → Option Kind
known_kind entries name = if unknown_in entries name then None else Some (kind_at entries name)

-- the value of a known name that isn't unread
abbrev pub known_value : List Entry → List Bool → ℕ → Option Value
known_value entries unread name =
    if unknown_in entries name || marked unread name then None else Some (eager entries name)

-- of a known name where its definition came from
abbrev pub origin_if : Bool → Origin → Option Origin
origin_if true origin = None
origin_if false origin = Some origin

abbrev pub origin_in : List Entry → ℕ → Option Origin
origin_in entries name = origin_if (unknown_in entries name) (entry_of entries name).origin
