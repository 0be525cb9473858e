-- What is read at the top is one element, and places stay small.
-- Code cites these at the end of a text, and at each place.
use Rattle.std.proofs.Common.{◌≡◌, ℕ, ◌+◌, ◌≤◌, Bool, true, false, cond, Some, List, [], ◌∷◌, suc, length, refl, sym, subst, arith}
use lib.Dec.{eqb}
use Rattle.fx_base.specs.Positions.{start, after, after_all}
use Rattle.fx_doc_grammar.specs.Grammar.{Items, Empty, Shown, Comment, Instruction, Leaf, Branch, Top_ok, has_element, Nothing, root_of, IsRoot, Reading, Spells}
use Rattle.fx_doc_grammar.specs.Machine.{State, initial, run, answer}
use Rattle.fx_doc_grammar.proofs.Advance.{sound}
use Rattle.fx_base.specs.declared.positions.Position.{Position}

no_root : (p : Position) (i : Items) → has_element i ≡ false → root_of p i ≡ Nothing
no_root p Empty e = refl
no_root p (Shown i s) e = no_root p i e
no_root p (Comment i x) e = no_root p i e
no_root p (Instruction i n x) e = no_root p i e
no_root p (Leaf i t) e = cc
no_root p (Branch i t inner w) e = cc

root_is : (p : Position) (i : Items) → Top_ok i → has_element i ≡ true → IsRoot (root_of p i)
root_is p Empty o e = absurd (let h : false ≡ true = e in cc)
root_is p (Shown i s) o e = root_is p i o.0 e
root_is p (Comment i x) o e = root_is p i o.0 e
root_is p (Instruction i n x) o e = root_is p i o.0 e
root_is p (Leaf i t) o e = no_root p i o.1
root_is p (Branch i t inner w) o e = no_root p i o.1

pub spelled_root : (text : List ℕ) (n : Reading) → Spells text n → IsRoot n.root
spelled_root text n s = subst IsRoot (sym s.root) (root_is start s.items s.top s.one)

pub answered_root : (text : List ℕ) (s : State) (n : Reading) → run start (Some initial) text ≡ Some s → answer s ≡ Some n → IsRoot n.root
answered_root text s n h e = spelled_root text n (sound text s n h e)

-- places

after_line : (p : Position) (c : ℕ) (b : Bool) → eqb c 10 ≡ b → (after p c).line ≤ p.line + 1
after_line p c true e = subst (λ y. (cond {A = Position} y (record { line = p.line + 1; column = 1 }) (record { line = p.line; column = p.column + 1 })).line ≤ p.line + 1) (sym e) (omega arith)
after_line p c false e = subst (λ y. (cond {A = Position} y (record { line = p.line + 1; column = 1 }) (record { line = p.line; column = p.column + 1 })).line ≤ p.line + 1) (sym e) (omega arith)

after_column : (p : Position) (c : ℕ) (b : Bool) → eqb c 10 ≡ b → (after p c).column ≤ p.column + 1
after_column p c true e = subst (λ y. (cond {A = Position} y (record { line = p.line + 1; column = 1 }) (record { line = p.line; column = p.column + 1 })).column ≤ p.column + 1) (sym e) (omega arith)
after_column p c false e = subst (λ y. (cond {A = Position} y (record { line = p.line + 1; column = 1 }) (record { line = p.line; column = p.column + 1 })).column ≤ p.column + 1) (sym e) (omega arith)

pub line_bound : (p : Position) (cs : List ℕ) → (after_all p cs).line ≤ p.line + length cs
line_bound p [] = omega arith
line_bound p (c ∷ cs) =
    let h = line_bound (after p c) cs in
    let g : (after p c).line ≤ p.line + 1 = after_line p c (eqb c 10) refl in
    bound (after_all (after p c) cs).line (after p c).line p.line (length cs) h g
  where
    bound : (a b d n : ℕ) → a ≤ b + n → b ≤ d + 1 → a ≤ d + suc n
    bound a b d n h g = omega arith

pub column_bound : (p : Position) (cs : List ℕ) → (after_all p cs).column ≤ p.column + length cs
column_bound p [] = omega arith
column_bound p (c ∷ cs) =
    let h = column_bound (after p c) cs in
    let g : (after p c).column ≤ p.column + 1 = after_column p c (eqb c 10) refl in
    bound (after_all (after p c) cs).column (after p c).column p.column (length cs) h g
  where
    bound : (a b d n : ℕ) → a ≤ b + n → b ≤ d + 1 → a ≤ d + suc n
    bound a b d n h g = omega arith
