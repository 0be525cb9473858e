-- Which tokens spell which tree (Introduction to FXML, expression binding). Signs between operands group to the
-- left; the strongest are those of strength 1. Each parenthesis and each sign before an operand nests.
use Rattle.std.specs.Prelude.{ℕ, ◌++◌, ◌≡◌, ◌==◌, List, [], ◌∷◌, Option, None, Some, suc, if◌then◌else◌}
use Rattle.fx_base.specs.declared.values.Value.{Value}
use Rattle.fx_expr.specs.declared.tree.UnarySign.TheVariants as unary
use Rattle.fx_expr.specs.declared.tree.BinarySign.{BinarySign}
use Rattle.fx_expr.specs.declared.tree.BinarySign.TheVariants as binary
use Rattle.fx_expr.specs.declared.tokens.Token.{Token}
use Rattle.fx_expr.specs.declared.tokens.Token.TheVariants.{Constant, Path, Opening, Closing, Exclamation, Binary}
use Rattle.fx_expr.specs.Operands.{place_in}
use Rattle.fx_expr.specs.Tree.{Tree, Leaf, Place, One, Two}

abbrev pub strength : BinarySign → ℕ
strength binary.Times = 1
strength binary.Over = 1
strength binary.Rest = 1
strength binary.Plus = 2
strength binary.Minus = 2
strength binary.Greater = 3
strength binary.GreaterEqual = 3
strength binary.Less = 3
strength binary.LessEqual = 3
strength binary.Equal = 4
strength binary.Differ = 4
strength binary.And = 5
strength binary.Or = 6

-- the sign between operands that the token is, if it has this strength
abbrev pub operator_of : ℕ → Token → Option BinarySign
operator_of m (Binary sign) = if strength sign == m then Some sign else None
operator_of m (Constant v) = None
operator_of m (Path names) = None
operator_of m Opening = None
operator_of m Closing = None
operator_of m Exclamation = None

-- over these paths, within this nesting, with signs of at most this strength outside of parentheses
pub data Spells (paths : List (List (List ℕ))) : ℕ → ℕ → List Token → Tree → Type 0 where
  constant : (d : ℕ) (v : Value) → Spells paths d 0 (Constant v ∷ []) (Leaf v)
  operand : (d : ℕ) (names : List (List ℕ)) → Spells paths d 0 (Path names ∷ []) (Place (place_in paths names))
  minus : (d : ℕ) (ts : List Token) (x : Tree) → Spells paths d 0 ts x
      → Spells paths (suc d) 0 (Binary binary.Minus ∷ ts) (One unary.Minus x)
  negation : (d : ℕ) (ts : List Token) (x : Tree) → Spells paths d 0 ts x
      → Spells paths (suc d) 0 (Exclamation ∷ ts) (One unary.Not x)
  parens : (d : ℕ) (ts : List Token) (x : Tree) → Spells paths d 6 ts x
      → Spells paths (suc d) 0 (Opening ∷ (ts ++ (Closing ∷ []))) x
  stronger : (d m : ℕ) (ts : List Token) (x : Tree) → Spells paths d m ts x → Spells paths d (suc m) ts x
  group : (d m : ℕ) (ls rs : List Token) (o : Token) (sign : BinarySign) (x y : Tree) → Spells paths d (suc m) ls x
      → operator_of (suc m) o ≡ Some sign → Spells paths d m rs y
      → Spells paths d (suc m) (ls ++ (o ∷ rs)) (Two sign x y)
