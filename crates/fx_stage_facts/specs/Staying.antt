-- The sizes that a frame publishes but for those that stay.
use Rattle.std.specs.Prelude.{Bool, not, List, filter}
use Rattle.fx_base.specs.declared.keys.Name.{Name}
use Rattle.fx_base.specs.declared.values.Value.{Value}
use Rattle.fx_store.specs.Own.{has_own}
use Rattle.fx_store_model.specs.Stored.{Stored}

-- the property has this value already, whether anybody has read it or not
abbrev pub stays : Stored → Name × Value → Bool
stays store pair = has_own store.entries pair.0.0 pair.1

abbrev pub differs : Stored → Name × Value → Bool
differs store pair = not (stays store pair)

-- the pairs but for those that stay
abbrev pub differing : Stored → List (Name × Value) → List (Name × Value)
differing store pairs = filter (differs store) pairs
