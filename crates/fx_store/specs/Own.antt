-- A value that a property has of itself, whether anybody has read it or not.
use Rattle.std.specs.Prelude.{ℕ, ◌||◌, Bool, false, if◌then◌else◌, List}
use Rattle.fx_base.specs.declared.values.Value.{Value}
use Rattle.fx_graph_model.specs.declared.entries.Entry.{Entry}
use Rattle.fx_graph_model.specs.Eager.{eager}
use Rattle.fx_graph_model.specs.Equality.{same_value}
use Rattle.fx_graph_model.specs.Uses.{bound_in, unknown_in}

-- the property is known, isn't bound and has the value
abbrev pub has_own : List Entry → ℕ → Value → Bool
has_own entries name value =
    if unknown_in entries name || bound_in entries name then false else same_value (eager entries name) value
