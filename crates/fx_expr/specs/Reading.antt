-- The tree of tokens, read from the left, and what an expression's text stands for.
use Rattle.std.specs.Prelude.{◌≡◌, ℕ, true, List, [], ◌∷◌, Option, None, Some, Result, Ok, Err, length, zero, suc, option_and_then, if◌then◌else◌, nat_lt}
use Rattle.std.specs.Option.{option_map}
use Rattle.fx_expr.specs.declared.tree.UnarySign.{UnarySign}
use Rattle.fx_expr.specs.declared.tree.UnarySign.TheVariants as unary
use Rattle.fx_expr.specs.declared.tree.BinarySign.{BinarySign}
use Rattle.fx_expr.specs.declared.tree.BinarySign.TheVariants as binary
use Rattle.fx_expr.specs.declared.tree.Parsed.{Parsed}
use Rattle.fx_expr.specs.declared.tokens.Token.{Token}
use Rattle.fx_expr.specs.declared.tokens.Token.TheVariants.{Constant, Path, Opening, Closing, Exclamation, Binary}
use Rattle.fx_expr.specs.declared.stops.Stop.{Stop}
use Rattle.fx_expr.specs.declared.stops.Stop.TheVariants as stop
use Rattle.fx_expr.specs.declared.reading.ExprError.{ExprError}
use Rattle.fx_expr.specs.declared.reading.ExprError.TheVariants as fault
use Rattle.fx_expr.specs.Operands.{place_in, paths_in, once}
use Rattle.fx_expr.specs.Tree.{Tree, tree, Leaf, Place, One, Two}
use Rattle.fx_expr.specs.Grammar.{Spells, operator_of, strength}
use Rattle.fx_expr.specs.Form.{has_form}
use Rattle.fx_expr.specs.Scanning.{tokens_of, after_white}
use Rattle.fx_expr.specs.Spelling.{IsSpelled}

-- What was returned, seen by view, is what reading gives, unless memory ran out.
abbrev pub Fails : {Y : Type 0} → Stop → Option Y → Type 0
Fails stop.Memory read = Unit {0}
Fails stop.Refused read = read ≡ None

abbrev pub Gives : {X Y : Type 0} → (X → Y) → Result X Stop → Option Y → Type 0
Gives view (Ok x) read = read ≡ Some (view x)
Gives view (Err e) read = Fails e read

abbrev pub operator_at : ℕ → List Token → Option (BinarySign × List Token)
operator_at m [] = None
operator_at m (t ∷ ts) = option_map (λ sign. (sign, ts)) (operator_of m t)

-- the strength of the sign that stands here, or 0
abbrev pub strength_at : List Token → ℕ
strength_at [] = 0
strength_at (Binary sign ∷ ts) = strength sign
strength_at (Constant v ∷ ts) = 0
strength_at (Path names ∷ ts) = 0
strength_at (Opening ∷ ts) = 0
strength_at (Closing ∷ ts) = 0
strength_at (Exclamation ∷ ts) = 0

abbrev pub on_operator : Option (BinarySign × List Token) → (BinarySign → List Token → Option (Tree × List Token))
    → Option (Tree × List Token) → Option (Tree × List Token)
on_operator None f other = other
on_operator (Some p) f other = f p.0 p.1

-- operands behind signs of this strength, to the left, at most so many
unfoldable pub more_of : (List Token → Option (Tree × List Token)) → ℕ → ℕ → Tree → List Token
    → Option (Tree × List Token)
more_of below m zero x ts = Some (x, ts)
more_of below m (suc fuel) x ts =
    on_operator (operator_at m ts) (λ sign rest.
    option_and_then (λ y. more_of below m fuel (Two sign x y.0) y.1) (below rest)) (Some (x, ts))

unfoldable pub level_over : (List Token → Option (Tree × List Token)) → ℕ → List Token → Option (Tree × List Token)
level_over operand zero ts = operand ts
level_over operand (suc m) ts =
    option_and_then (λ x. more_of (level_over operand m) (suc m) (length x.1) x.0 x.1) (level_over operand m ts)

abbrev pub signed : UnarySign → Tree × List Token → Option (Tree × List Token)
signed sign x = Some (One sign x.0, x.1)

abbrev pub closed_by : Tree → List Token → Option (Tree × List Token)
closed_by x (Closing ∷ ts) = Some (x, ts)
closed_by x _ = None

unfoldable pub operand_of : List (List (List ℕ)) → ℕ → List Token → Option (Tree × List Token)
operand_of paths d [] = None
operand_of paths d (Constant v ∷ ts) = Some (Leaf v, ts)
operand_of paths d (Path names ∷ ts) = Some (Place (place_in paths names), ts)
operand_of paths (suc d) (Binary binary.Minus ∷ ts) =
    option_and_then (λ x. signed unary.Minus x) (operand_of paths d ts)
operand_of paths (suc d) (Exclamation ∷ ts) = option_and_then (λ x. signed unary.Not x) (operand_of paths d ts)
operand_of paths (suc d) (Opening ∷ ts) =
    option_and_then (λ x. closed_by x.0 x.1) (level_over (operand_of paths d) 6 ts)
operand_of paths d _ = None

abbrev pub level_of : List (List (List ℕ)) → ℕ → ℕ → List Token → Option (Tree × List Token)
level_of paths d m ts = level_over (operand_of paths d) m ts

abbrev pub ended : Tree → List Token → Option Tree
ended x [] = Some x
ended x (t ∷ ts) = None

unfoldable pub whole_of : List (List (List ℕ)) → List Token → Option Tree
whole_of paths ts = option_and_then (λ x. ended x.0 x.1) (level_of paths 32 6 ts)

-- The text reads as this tree over these paths: it is written in tokens that spell the tree, nested at most 32
-- deep, and these are its different paths.
pub record IsRead (text : List ℕ) (paths : List (List (List ℕ))) (t : Tree) : Type 0 where
  pub tokens : List Token
  pub spelled : IsSpelled text tokens
  pub listed : paths ≡ once (paths_in tokens)
  pub grouped : Spells paths 32 6 tokens t

-- the text reads as a tree, however deep
pub record HasForm (text : List ℕ) : Type 0 where
  pub tokens : List Token
  pub spelled : IsSpelled text tokens
  pub paths : List (List (List ℕ))
  pub depth : ℕ
  pub meant : Tree
  pub grouped : Spells paths depth 6 tokens meant

-- the expression that was read has this tree and these paths, or memory ran out
abbrev pub IsThat : Tree → List (List (List ℕ)) → Result Parsed ExprError → Type 0
IsThat t paths (Ok p) = (tree p.expr ≡ t) × (p.paths ≡ paths)
IsThat t paths (Err e) = e ≡ fault.Memory

-- what a text gives, but for want of memory
abbrev pub counted : Tree → List (List (List ℕ)) → Result (Tree × List (List (List ℕ))) ExprError
counted t paths = if nat_lt 256 (length paths) then Err fault.Operands else Ok (t, paths)

abbrev pub nested : Option Tree → List (List (List ℕ)) → Result (Tree × List (List (List ℕ))) ExprError
nested None paths = Err fault.Depth
nested (Some t) paths = counted t paths

abbrev pub formed : Option (List Token) → Result (Tree × List (List (List ℕ))) ExprError
formed None = Err fault.Syntax
formed (Some ts) =
    if has_form true 0 ts then nested (whole_of (once (paths_in ts)) ts) (once (paths_in ts)) else Err fault.Syntax

unfoldable pub reading_of : List ℕ → Result (Tree × List (List (List ℕ))) ExprError
reading_of text = formed (tokens_of (length text) (after_white text))

abbrev pub IsAnswer : Result (Tree × List (List (List ℕ))) ExprError → Result Parsed ExprError → Type 0
IsAnswer (Ok x) (Ok p) = (tree p.expr ≡ x.0) × (p.paths ≡ x.1)
IsAnswer (Ok x) (Err e) = e ≡ fault.Memory
IsAnswer (Err f) (Ok p) = ⊥
IsAnswer (Err f) (Err fault.Memory) = Unit {0}
IsAnswer (Err f) (Err fault.Syntax) = f ≡ fault.Syntax
IsAnswer (Err f) (Err fault.Depth) = f ≡ fault.Depth
IsAnswer (Err f) (Err fault.Operands) = f ≡ fault.Operands
