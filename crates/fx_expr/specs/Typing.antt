-- The kind of an expression over the kinds of its operands: none where a sign is given what it doesn't take.
use Rattle.std.specs.Prelude.{List, Option, None, Some, slice_index_or, option_and_then}
use Rattle.fx_base.specs.Printing.{kind_of}
use Rattle.fx_base.specs.declared.kinds.Kind.{Kind}
use Rattle.fx_base.specs.declared.kinds.Kind.TheVariants as kind
use Rattle.fx_expr.specs.declared.tree.UnarySign.{UnarySign}
use Rattle.fx_expr.specs.declared.tree.BinarySign.{BinarySign}
use Rattle.fx_expr.specs.declared.tree.UnarySign.TheVariants as unary
use Rattle.fx_expr.specs.declared.tree.BinarySign.TheVariants as binary
use Rattle.fx_expr.specs.Tree.{Tree, Leaf, Place, One, Two}

abbrev pub unary_kind : UnarySign → Kind → Option Kind
unary_kind unary.Minus kind.Int = Some kind.Int
unary_kind unary.Not kind.Bool = Some kind.Bool
unary_kind _ _ = None

-- a sum of two numbers is a number; with a text and a number, a truth or a text it is a text
abbrev pub sum_kind : Kind → Kind → Option Kind
sum_kind kind.Int kind.Int = Some kind.Int
sum_kind kind.Int kind.Text = Some kind.Text
sum_kind kind.Bool kind.Text = Some kind.Text
sum_kind kind.Text kind.Int = Some kind.Text
sum_kind kind.Text kind.Bool = Some kind.Text
sum_kind kind.Text kind.Text = Some kind.Text
sum_kind _ _ = None

-- of two numbers
abbrev pub numeric_kind : Kind → Kind → Kind → Option Kind
numeric_kind answer kind.Int kind.Int = Some answer
numeric_kind answer _ _ = None

abbrev pub same_kind : Kind → Kind → Option Kind
same_kind kind.Int kind.Int = Some kind.Bool
same_kind kind.Bool kind.Bool = Some kind.Bool
same_kind kind.Text kind.Text = Some kind.Bool
same_kind _ _ = None

abbrev pub truth_kind : Kind → Kind → Option Kind
truth_kind kind.Bool kind.Bool = Some kind.Bool
truth_kind _ _ = None

abbrev pub binary_kind : BinarySign → Kind → Kind → Option Kind
binary_kind binary.Or x y = truth_kind x y
binary_kind binary.And x y = truth_kind x y
binary_kind binary.Equal x y = same_kind x y
binary_kind binary.Differ x y = same_kind x y
binary_kind binary.Greater x y = numeric_kind kind.Bool x y
binary_kind binary.GreaterEqual x y = numeric_kind kind.Bool x y
binary_kind binary.Less x y = numeric_kind kind.Bool x y
binary_kind binary.LessEqual x y = numeric_kind kind.Bool x y
binary_kind binary.Plus x y = sum_kind x y
binary_kind binary.Minus x y = numeric_kind kind.Int x y
binary_kind binary.Times x y = numeric_kind kind.Int x y
binary_kind binary.Over x y = numeric_kind kind.Int x y
binary_kind binary.Rest x y = numeric_kind kind.Int x y

abbrev pub kind_in : Tree → List Kind → Option Kind
kind_in (Leaf v) kinds = Some (kind_of v)
kind_in (Place i) kinds = Some (slice_index_or kinds i kind.Bool)
kind_in (One sign x) kinds = option_and_then (λ k. unary_kind sign k) (kind_in x kinds)
kind_in (Two sign x y) kinds =
    option_and_then (λ j. option_and_then (λ k. binary_kind sign j k) (kind_in y kinds)) (kind_in x kinds)
