-- Expressions as trees, without where their parts lie in memory.
use Rattle.std.specs.Prelude.{ℕ, Bool, true, ◌&&◌, nat_lt}
use Rattle.fx_base.specs.declared.values.Value.{Value}
use Rattle.fx_expr.specs.declared.tree.UnarySign.{UnarySign}
use Rattle.fx_expr.specs.declared.tree.BinarySign.{BinarySign}
use Rattle.fx_expr.specs.declared.tree.Expr.{Expr}
use Rattle.fx_expr.specs.declared.tree.Expr.TheVariants.{Const, Operand, Unary', Binary'}

-- a constant, an operand by its place, a sign before an expression, or one between two
pub data Tree : Type 0 where
  Leaf : Value → Tree
  Place : ℕ → Tree
  One : UnarySign → Tree → Tree
  Two : BinarySign → Tree → Tree → Tree

abbrev pub tree : Expr → Tree
tree (Const v) = Leaf v
tree (Operand i) = Place i
tree (Unary' sign p e) = One sign (tree e)
tree (Binary' sign p a q b) = Two sign (tree a) (tree b)

-- each operand is one of so many
abbrev pub is_within : Tree → ℕ → Bool
is_within (Leaf v) count = true
is_within (Place i) count = nat_lt i count
is_within (One sign x) count = is_within x count
is_within (Two sign x y) count = is_within x count && is_within y count
