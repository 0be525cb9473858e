-- The definitions at one store: s is 1, a is bound to it, b is bound to it, and c is bound to a and b.
use Rattle.std.proofs.Common.{◌≡◌, ℕ, Bool, true, false, List, [], ◌∷◌, map, refl, pos}
use Rattle.fx_base.specs.declared.kinds.Kind.TheVariants as kind
use Rattle.fx_base.specs.declared.values.Value.{Value}
use Rattle.fx_base.specs.declared.values.Value.TheVariants as value
use Rattle.fx_expr.specs.Tree.{Tree, Leaf, Place, Two}
use Rattle.fx_expr.specs.declared.tree.BinarySign.TheVariants as binary
use Rattle.fx_graph_model.specs.declared.entries.Entry.{Entry}
use Rattle.fx_graph_model.specs.declared.entries.Origin.TheVariants as origin
use Rattle.fx_graph_model.specs.declared.entries.Definition.TheVariants.{Base, Bound}
use Rattle.fx_graph_model.specs.Eager.{value_in, eager}
use Rattle.fx_graph_model.specs.Uses.{reaches_in, leads}
use Rattle.fx_graph_model.specs.Unread.{leads_to_any, after_marking, after_reading, evaluations}

abbrev number : Value → Entry
number here = record { kind = kind.Int; read_only = false; origin = origin.Initial; definition = Base here }

abbrev binding : Tree → List ℕ → Entry
binding expr operands = record { kind = kind.Int; read_only = false; origin = origin.Bound; definition = Bound expr operands }

abbrev diamond : Value → Tree → Tree → Tree → List Entry
diamond s a b c = number s ∷ binding a (0 ∷ []) ∷ binding b (0 ∷ []) ∷ binding c (1 ∷ 2 ∷ []) ∷ []

abbrev all : Bool → List Bool
all flag = flag ∷ flag ∷ flag ∷ flag ∷ []

-- all lead to s, and s leads to itself alone; so only a binding of s closes a cycle
up : (s : Value) (a b c : Tree) → map (λ n. leads (diamond s a b c) n 0) (0 ∷ 1 ∷ 2 ∷ 3 ∷ []) ≡ all true
unfolding leads reaches_in
up s a b c = refl

down : (s : Value) (a b c : Tree) → map (leads (diamond s a b c) 0) (0 ∷ 1 ∷ 2 ∷ 3 ∷ []) ≡ true ∷ false ∷ false ∷ false ∷ []
unfolding leads reaches_in
down s a b c = refl

-- after a set of s all is unread, newly
marks : (s : Value) (a b c : Tree) → after_marking (diamond s a b c) (0 ∷ []) (all false) ≡ all true
unfolding leads_to_any leads reaches_in
marks s a b c = refl

-- a read of a takes a and s out
reads : (s : Value) (a b c : Tree) → after_reading (diamond s a b c) 1 (all true) ≡ false ∷ false ∷ true ∷ true ∷ []
unfolding leads reaches_in
reads s a b c = refl

-- a read of c evaluates a, b and c, and only b and c where a is read already
costs : (s : Value) (a b c : Tree) → evaluations (diamond s a b c) 3 (all true) ≡ 3
unfolding evaluations leads reaches_in
costs s a b c = refl

abbrev one_more : Tree
one_more = Two binary.Plus (Place 0) (Leaf (value.Int (pos 1)))

abbrev twice : Tree
twice = Two binary.Times (Place 0) (Leaf (value.Int (pos 2)))

abbrev sum : Tree
sum = Two binary.Plus (Place 0) (Place 1)

-- where a is s + 1, b is s * 2 and c is a + b, c is 4, and 7 after s is 2
before : (a b c : Tree) → a ≡ one_more → b ≡ twice → c ≡ sum
    → eager (diamond (value.Int (pos 1)) a b c) 3 ≡ value.Int (pos 4)
unfolding value_in
before a b c is_a is_b is_c = rw (is_c, is_a, is_b) refl

after : (a b c : Tree) → a ≡ one_more → b ≡ twice → c ≡ sum
    → eager (diamond (value.Int (pos 2)) a b c) 3 ≡ value.Int (pos 7)
unfolding value_in
after a b c is_a is_b is_c = rw (is_c, is_a, is_b) refl
