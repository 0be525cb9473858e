-- Some operands replaced by constants, the others numbered anew in their order.
use Rattle.std.specs.Prelude.{ℕ, List, [], ◌∷◌, Option, None, Some, is_none, take, count_by, slice_index_or}
use Rattle.fx_base.specs.declared.values.Value.{Value}
use Rattle.fx_expr.specs.Tree.{Tree, Leaf, Place, One, Two}
use Rattle.fx_expr.specs.Meaning.{no_value}

-- how many aren't known
abbrev pub unknowns : List (Option Value) → ℕ
unknowns known = count_by is_none known

abbrev pub filled_operand : Option Value → ℕ → Tree
filled_operand (Some v) before = Leaf v
filled_operand None before = Place before

abbrev pub filled : List (Option Value) → Tree → Tree
filled known (Leaf v) = Leaf v
filled known (Place i) = filled_operand (slice_index_or known i None) (unknowns (take i known))
filled known (One sign x) = One sign (filled known x)
filled known (Two sign x y) = Two sign (filled known x) (filled known y)

-- the values of all operands: the known ones, and those that are left in their order
abbrev pub merged : List (Option Value) → List Value → List Value
merged [] left = []
merged (Some v ∷ known) left = v ∷ merged known left
merged (None ∷ known) [] = no_value ∷ merged known []
merged (None ∷ known) (v ∷ left) = v ∷ merged known left
