-- What an expression means over the values of its operands (Introduction to FXML, expression binding).
use Rattle.std.specs.Prelude.{ℕ, ℤ, pos, Bool, false, not, ◌&&◌, ◌||◌, ◌++◌, ◌+ℤ◌, ◌-ℤ◌, ◌*ℤ◌, neg_ℤ, List, [], take, nat_eq, if◌then◌else◌, int_lt, int_le, int_div, int_rem, slice_index_or, Option, None, Some, encode_utf8_all}
use Rattle.std.specs.Int.{saturate_signed, w64}
use Rattle.std.specs.Ordering.{int_eq}
use Rattle.std.specs.Bool.{beq}
use Rattle.std.specs.Str.{chars}
use Rattle.std.specs.Fmt.{signed_decimal}
use Rattle.std.specs.Cmp.Lexicographic.{pointwise}
use Rattle.fx_base.specs.Printing.{truth_text}
use Rattle.fx_base.specs.declared.values.Value.{Value}
use Rattle.fx_base.specs.declared.values.Value.TheVariants as value
use Rattle.fx_expr.specs.declared.tree.UnarySign.{UnarySign}
use Rattle.fx_expr.specs.declared.tree.BinarySign.{BinarySign}
use Rattle.fx_expr.specs.declared.tree.UnarySign.TheVariants as unary
use Rattle.fx_expr.specs.declared.tree.BinarySign.TheVariants as binary
use Rattle.fx_expr.specs.Tree.{Tree, Leaf, Place, One, Two}

-- what stands for a value that an expression without a kind has none of
abbrev pub no_value : Value
no_value = value.Bool false

-- the nearest number of 64 bits
abbrev pub near : ℤ → Value
near n = value.Int (saturate_signed w64 n)

abbrev pub negated : Value → Value
negated (value.Int n) = near (neg_ℤ n)
negated _ = no_value

abbrev pub denied : Value → Value
denied (value.Bool b) = value.Bool (not b)
denied _ = no_value

abbrev pub unary_of : UnarySign → Value → Value
unary_of unary.Minus x = negated x
unary_of unary.Not x = denied x

-- towards zero, and 0 where it divides by 0
abbrev pub quotient_of : ℤ → ℤ → Value
quotient_of m n = if int_eq n (pos 0) then value.Int (pos 0) else near (int_div m n)

-- with the sign of the left number, and 0 where it divides by 0
abbrev pub rest_of : ℤ → ℤ → Value
rest_of m n = if int_eq n (pos 0) then value.Int (pos 0) else value.Int (int_rem m n)

-- one of the nine that take two numbers
abbrev pub over_numbers : BinarySign → ℤ → ℤ → Value
over_numbers binary.Plus m n = near (m +ℤ n)
over_numbers binary.Minus m n = near (m -ℤ n)
over_numbers binary.Times m n = near (m *ℤ n)
over_numbers binary.Over m n = quotient_of m n
over_numbers binary.Rest m n = rest_of m n
over_numbers binary.Greater m n = value.Bool (int_lt n m)
over_numbers binary.GreaterEqual m n = value.Bool (int_le n m)
over_numbers binary.Less m n = value.Bool (int_lt m n)
over_numbers binary.LessEqual m n = value.Bool (int_le m n)
over_numbers _ m n = no_value

-- one of the four that compare two numbers
abbrev pub compared : BinarySign → ℤ → ℤ → Value
compared binary.Greater m n = value.Bool (int_lt n m)
compared binary.GreaterEqual m n = value.Bool (int_le n m)
compared binary.Less m n = value.Bool (int_lt m n)
compared binary.LessEqual m n = value.Bool (int_le m n)
compared _ m n = no_value

abbrev pub numeric : BinarySign → Value → Value → Value
numeric sign (value.Int m) (value.Int n) = over_numbers sign m n
numeric sign _ _ = no_value

-- a number or a truth as it is printed, a text as it is
abbrev pub shown : Value → List ℕ
shown (value.Int n) = signed_decimal n
shown (value.Bool b) = truth_text b
shown (value.Text t) = t
shown _ = []

-- two texts joined, and cut to 4,096 characters
abbrev pub joined : List ℕ → List ℕ → List ℕ
joined s t = encode_utf8_all (take 4096 (chars s ++ chars t))

-- the sum, where both are numbers
abbrev pub number_sum : Value → Value → Option ℤ
number_sum (value.Int m) (value.Int n) = Some (saturate_signed w64 (m +ℤ n))
number_sum _ _ = None

abbrev pub number_or_text : Option ℤ → List ℕ → Value
number_or_text (Some n) text = value.Int n
number_or_text None text = value.Text text

-- the sum of two numbers; of others the texts, joined
abbrev pub sum_of : Value → Value → Value
sum_of x y = number_or_text (number_sum x y) (joined (shown x) (shown y))

-- are they two equal numbers, truths or texts?
abbrev pub same : Value → Value → Bool
same (value.Int m) (value.Int n) = int_eq m n
same (value.Bool a) (value.Bool b) = beq a b
same (value.Text s) (value.Text t) = pointwise nat_eq s t
same _ _ = false

-- is it the value of what is true?
abbrev pub holds : Value → Bool
holds (value.Bool b) = b
holds _ = false

abbrev pub binary_of : BinarySign → Value → Value → Value
binary_of binary.Or x y = value.Bool (holds x || holds y)
binary_of binary.And x y = value.Bool (holds x && holds y)
binary_of binary.Equal x y = value.Bool (same x y)
binary_of binary.Differ x y = value.Bool (not (same x y))
binary_of binary.Plus x y = sum_of x y
binary_of binary.Greater x y = numeric binary.Greater x y
binary_of binary.GreaterEqual x y = numeric binary.GreaterEqual x y
binary_of binary.Less x y = numeric binary.Less x y
binary_of binary.LessEqual x y = numeric binary.LessEqual x y
binary_of binary.Minus x y = numeric binary.Minus x y
binary_of binary.Times x y = numeric binary.Times x y
binary_of binary.Over x y = numeric binary.Over x y
binary_of binary.Rest x y = numeric binary.Rest x y

abbrev pub mean : Tree → List Value → Value
mean (Leaf v) values = v
mean (Place i) values = slice_index_or values i no_value
mean (One sign x) values = unary_of sign (mean x values)
mean (Two sign x y) values = binary_of sign (mean x values) (mean y values)
