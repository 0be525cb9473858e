-- Trees of expressions as lists, operands before the signs that join them, so that two trees can be told apart by their
-- lists.
use Rattle.std.proofs.Common.{inl, inr, refl, ap, ◌∙◌}
use Rattle.std.specs.Prelude.{◌≡◌, ◌⊎◌, ℕ, false, List, [], ◌∷◌}
use Rattle.std.specs.Coded.{Coded, code_by, coded_ℕ, coded_list, coded⊎}
use Rattle.fx_base.specs.contracts.values.Value.{the_row as value_row}
use Rattle.fx_base.specs.declared.values.Value.{Value}
use Rattle.fx_base.specs.declared.values.Value.TheVariants as value
use Rattle.fx_expr.specs.Tree.{Tree, Leaf, Place, One, Two}
use Rattle.fx_expr.specs.contracts.tree.BinarySign.{the_row as binary_row}
use Rattle.fx_expr.specs.contracts.tree.UnarySign.{the_row as unary_row}
use Rattle.fx_expr.specs.declared.tree.BinarySign.{BinarySign}
use Rattle.fx_expr.specs.declared.tree.UnarySign.{UnarySign}

abbrev pub Sign : Type 0
Sign = Value ⊎ (ℕ ⊎ (UnarySign ⊎ BinarySign))

-- a tree in front of what stands behind it
abbrev pub listed : Tree → List Sign → List Sign
listed (Leaf v) rest = inl v ∷ rest
listed (Place i) rest = inr (inl i) ∷ rest
listed (One sign x) rest = listed x (inr (inr (inl sign)) ∷ rest)
listed (Two sign x y) rest = listed x (listed y (inr (inr (inr sign)) ∷ rest))

abbrev pub joined : UnarySign → List Tree → List Tree
joined sign [] = []
joined sign (x ∷ trees) = One sign x ∷ trees

abbrev pub joined_two : BinarySign → List Tree → List Tree
joined_two sign [] = []
joined_two sign (y ∷ []) = []
joined_two sign (y ∷ (x ∷ trees)) = Two sign x y ∷ trees

-- the trees that a list stands for, the last one first
abbrev pub read : List Sign → List Tree → List Tree
read [] trees = trees
read (inl v ∷ signs) trees = read signs (Leaf v ∷ trees)
read (inr (inl i) ∷ signs) trees = read signs (Place i ∷ trees)
read (inr (inr (inl sign)) ∷ signs) trees = read signs (joined sign trees)
read (inr (inr (inr sign)) ∷ signs) trees = read signs (joined_two sign trees)

pub read_back : (t : Tree) (rest : List Sign) (trees : List Tree) → read (listed t rest) trees ≡ read rest (t ∷ trees)
read_back (Leaf v) rest trees = refl
read_back (Place i) rest trees = refl
read_back (One sign x) rest trees = read_back x (inr (inr (inl sign)) ∷ rest) trees
read_back (Two sign x y) rest trees =
    read_back x (listed y (inr (inr (inr sign)) ∷ rest)) trees ∙ read_back y (inr (inr (inr sign)) ∷ rest) (x ∷ trees)

abbrev pub top : List Tree → Tree
top [] = Leaf (value.Bool false)
top (t ∷ trees) = t

-- as lists
abbrev pub coded_tree : Coded Tree
coded_tree =
    code_by (List Sign)
    (coded_list (coded⊎ value_row.coded (coded⊎ coded_ℕ (coded⊎ unary_row.coded binary_row.coded))))
    (λ t. listed t []) (λ signs. top (read signs [])) (λ t. ap top (read_back t [] []))
