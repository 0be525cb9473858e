-- What filling means, and that its places are within those that are left.
use Rattle.std.proofs.Common.{◌≡◌, ◌<◌, ◌≤◌, ℕ, true, List, [], ◌∷◌, zero, suc, length, take, get_or, refl, ap, ◌∙◌, arith, Option, None, Some, is_none, cond}
use Rattle.std.proofs.lemmas.List.Sums.{sum_by-cons}
use Rattle.std.proofs.lemmas.Bool.Decides.{Decides-ltb}
use Rattle.fx_base.specs.declared.values.Value.{Value}
use Rattle.fx_expr.specs.Tree.{Tree, Leaf, Place, One, Two, is_within}
use Rattle.fx_expr.specs.Meaning.{mean, no_value, unary_of, binary_of}
use Rattle.fx_expr.specs.Filling.{filled, filled_operand, merged, unknowns}
use Rattle.std.proofs.lemmas.Bool.{and_parts, and_from}

unknown_more : (known : List (Option Value)) → unknowns (None ∷ known) ≡ suc (unknowns known)
unknown_more known = let e = sum_by-cons (λ (k : Option Value). cond (is_none k) 1 0) None known in omega (arith, e)

known_more : (v : Value) (known : List (Option Value)) → unknowns (Some v ∷ known) ≡ unknowns known
known_more v known = let e = sum_by-cons (λ (k : Option Value). cond (is_none k) 1 0) (Some v) known in omega (arith, e)

-- an unknown one has its number below the number of them
operand_within : (known : List (Option Value)) (i : ℕ) → i < length known → is_within (filled_operand (get_or known i None) (unknowns (take i known))) (unknowns known) ≡ true
operand_within [] i below = absurd (omega arith)
operand_within (Some v ∷ known) zero below = refl
operand_within (None ∷ known) zero below = (Decides-ltb 0 (unknowns (None ∷ known))).1 (let e = unknown_more known in omega arith)
operand_within (Some v ∷ known) (suc i) below = rw (known_more v (take i known), known_more v known) (operand_within known i (omega arith))
operand_within (None ∷ known) (suc i) below =
    rw (unknown_more (take i known), unknown_more known) (shifted (get_or known i None) (unknowns (take i known)) (unknowns known) (operand_within known i (omega arith)))
  where
    shifted : (o : Option Value) (m n : ℕ) → is_within (filled_operand o m) n ≡ true → is_within (filled_operand o (suc m)) (suc n) ≡ true
    shifted (Some v) m n e = refl
    shifted None m n e = (Decides-ltb (suc m) (suc n)).1 (let l : m < n = (Decides-ltb m n).0 e in omega arith)

pub filled_within : (known : List (Option Value)) (t : Tree) → is_within t (length known) ≡ true → is_within (filled known t) (unknowns known) ≡ true
filled_within known (Leaf v) e = refl
filled_within known (Place i) e = operand_within known i ((Decides-ltb i (length known)).0 e)
filled_within known (One sign x) e = filled_within known x e
filled_within known (Two sign x y) e =
    let both = and_parts (is_within x (length known)) (is_within y (length known)) e in
    and_from (is_within (filled known x) (unknowns known)) (is_within (filled known y) (unknowns known)) (filled_within known x both.0) (filled_within known y both.1)

operand_means : (known : List (Option Value)) (left : List Value) (i : ℕ) → i < length known → length left ≡ unknowns known → mean (filled_operand (get_or known i None) (unknowns (take i known))) left ≡ get_or (merged known left) i no_value
operand_means [] left i below long = absurd (omega arith)
operand_means (Some v ∷ known) left zero below long = refl
operand_means (None ∷ known) [] zero below long = absurd (let e = unknown_more known in let z : 0 ≡ unknowns (None ∷ known) = long in omega arith)
operand_means (None ∷ known) (v ∷ left) zero below long = refl
operand_means (Some v ∷ known) left (suc i) below long = rw (known_more v (take i known)) (operand_means known left i (omega arith) (long ∙ known_more v known))
operand_means (None ∷ known) [] (suc i) below long = absurd (let e = unknown_more known in let z : 0 ≡ unknowns (None ∷ known) = long in omega arith)
operand_means (None ∷ known) (v ∷ left) (suc i) below long =
    rw (unknown_more (take i known))
    (moved (get_or known i None) (unknowns (take i known)) ∙ operand_means known left i (omega arith) (let e = unknown_more known in let z : suc (length left) ≡ unknowns (None ∷ known) = long in omega arith))
  where
    moved : (o : Option Value) (m : ℕ) → mean (filled_operand o (suc m)) (v ∷ left) ≡ mean (filled_operand o m) left
    moved (Some w) m = refl
    moved None m = refl

pub filled_means : (known : List (Option Value)) (left : List Value) (t : Tree) → is_within t (length known) ≡ true → length left ≡ unknowns known → mean (filled known t) left ≡ mean t (merged known left)
filled_means known left (Leaf v) e long = refl
filled_means known left (Place i) e long = operand_means known left i ((Decides-ltb i (length known)).0 e) long
filled_means known left (One sign x) e long = ap (unary_of sign) (filled_means known left x e long)
filled_means known left (Two sign x y) e long =
    let both = and_parts (is_within x (length known)) (is_within y (length known)) e in
    ap (λ m. binary_of sign m (mean (filled known y) left)) (filled_means known left x both.0 long)
    ∙ ap (λ n. binary_of sign (mean x (merged known left)) n) (filled_means known left y both.1 long)

unknown_few : (known : List (Option Value)) → unknowns known ≤ length known
unknown_few [] = omega arith
unknown_few (Some v ∷ known) = let e = known_more v known in let few = unknown_few known in omega arith
unknown_few (None ∷ known) = let e = unknown_more known in let few = unknown_few known in omega arith

-- where none is known, an operand keeps its number
operand_stays : (known : List (Option Value)) (i : ℕ) → i < length known → unknowns known ≡ length known
    → Place i ≡ filled_operand (get_or known i None) (unknowns (take i known))
operand_stays [] i below all = absurd (omega arith)
operand_stays (Some v ∷ known) i below all =
    absurd (let e = known_more v known in let few = unknown_few known in
    let z : unknowns (Some v ∷ known) ≡ suc (length known) = all in omega arith)
operand_stays (None ∷ known) zero below all = refl
operand_stays (None ∷ known) (suc i) below all =
    rw (unknown_more (take i known))
    (placed (get_or known i None) (unknowns (take i known)) i (operand_stays known i (omega arith) left))
  where
    left : unknowns known ≡ length known
    left = let e = unknown_more known in let z : unknowns (None ∷ known) ≡ suc (length known) = all in omega arith

    placed : (o : Option Value) (m n : ℕ) → Place n ≡ filled_operand o m → Place (suc n) ≡ filled_operand o (suc m)
    placed (Some v) m n e = absurd cc
    placed None m n e = let same : n ≡ m = cc in ap (λ k. Place (suc k)) same

-- where none is known, nothing is filled
pub none_filled : (known : List (Option Value)) (t : Tree) → unknowns known ≡ length known
    → is_within t (length known) ≡ true → t ≡ filled known t
none_filled known (Leaf v) all e = refl
none_filled known (Place i) all e = operand_stays known i ((Decides-ltb i (length known)).0 e) all
none_filled known (One sign x) all e = ap (One sign) (none_filled known x all e)
none_filled known (Two sign x y) all e =
    let both = and_parts (is_within x (length known)) (is_within y (length known)) e in
    ap (λ m. Two sign m y) (none_filled known x all both.0)
    ∙ ap (λ n. Two sign (filled known x) n) (none_filled known y all both.1)
