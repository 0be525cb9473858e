-- Sums of lists in parts.
use Rattle.std.proofs.Common.{ℕ, ◌≡◌, ◌≤◌, ◌+◌, ◌-◌, ◌++◌, ◌∷◌, List, [], take, drop, sum, arith, ap}
use Rattle.std.specs.List.{fold}
use Rattle.std.proofs.lemmas.List.Sums.{fold-append}
use Rattle.std.proofs.Math.Seq.{take-add}

sum-from : (a : ℕ) (xs : List ℕ) → fold ◌+◌ a xs ≡ a + sum xs
sum-from a [] = omega (arith)
sum-from a (x ∷ xs) = omega (arith, sum-from (a + x) xs, sum-from (0 + x) xs)

sum-append : (xs ys : List ℕ) → sum (xs ++ ys) ≡ sum xs + sum ys
sum-append xs ys = omega (arith, fold-append ◌+◌ 0 xs ys, sum-from (sum xs) ys)

-- what stands before a place, and then up to a later one
pub sum_further : (from to : ℕ) (xs : List ℕ) → from ≤ to
    → sum (take to xs) ≡ sum (take from xs) + sum (take (to - from) (drop from xs))
sum_further from to xs rises =
    let parts : take (from + (to - from)) xs ≡ take from xs ++ take (to - from) (drop from xs) = take-add from (to - from) xs in
    let place : from + (to - from) ≡ to = omega (arith, rises) in
    let whole : sum (take (from + (to - from)) xs) ≡ sum (take from xs ++ take (to - from) (drop from xs)) = ap sum parts in
    let ends : sum (take (from + (to - from)) xs) ≡ sum (take to xs) = ap (λ (n : ℕ). sum (take n xs)) place in
    omega (arith, ends, whole, sum-append (take from xs) (take (to - from) (drop from xs)))
