-- The values that stand at names.
use Rattle.std.specs.Prelude.{ℕ, List, map, slice_index_or}
use Rattle.fx_base.specs.declared.values.Value.{Value}
use Rattle.fx_expr.specs.Meaning.{no_value}

-- the values in the list at these numbers
abbrev pub values_at : List Value → List ℕ → List Value
values_at values names = map (λ (name : ℕ). slice_index_or values name no_value) names
