-- Whether tokens have the form of an expression, however deep: an operand wanted or not, and how many
-- parentheses are open.
use Rattle.std.specs.Prelude.{ℕ, Bool, true, false, ◌+◌, ◌-◌, ◌==◌, List, [], ◌∷◌, if◌then◌else◌}
use Rattle.fx_expr.specs.declared.tree.BinarySign.TheVariants as binary
use Rattle.fx_expr.specs.declared.tree.BinarySign.{BinarySign}
use Rattle.fx_expr.specs.declared.tokens.Token.{Token}
use Rattle.fx_expr.specs.declared.tokens.Token.TheVariants.{Constant, Path, Opening, Closing, Exclamation, Binary}

-- is it the sign that also stands before an operand?
abbrev pub is_minus : BinarySign → Bool
is_minus binary.Minus = true
is_minus binary.Or = false
is_minus binary.And = false
is_minus binary.Equal = false
is_minus binary.Differ = false
is_minus binary.Greater = false
is_minus binary.GreaterEqual = false
is_minus binary.Less = false
is_minus binary.LessEqual = false
is_minus binary.Plus = false
is_minus binary.Times = false
is_minus binary.Over = false
is_minus binary.Rest = false

abbrev pub and_if : Bool → Bool → Bool
and_if true b = b
and_if false b = false

abbrev pub has_form : Bool → ℕ → List Token → Bool
has_form true count [] = false
has_form true count (Constant v ∷ ts) = has_form false count ts
has_form true count (Path names ∷ ts) = has_form false count ts
has_form true count (Opening ∷ ts) = has_form true (count + 1) ts
has_form true count (Exclamation ∷ ts) = has_form true count ts
has_form true count (Binary sign ∷ ts) = and_if (is_minus sign) (has_form true count ts)
has_form true count (Closing ∷ ts) = false
has_form false count [] = count == 0
has_form false count (Closing ∷ ts) = if count == 0 then false else has_form false (count - 1) ts
has_form false count (Binary sign ∷ ts) = has_form true count ts
has_form false count (Constant v ∷ ts) = false
has_form false count (Path names ∷ ts) = false
has_form false count (Opening ∷ ts) = false
has_form false count (Exclamation ∷ ts) = false
