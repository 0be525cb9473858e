-- What joined names are: joining is the least equivalence that holds of the pairs, and so a walk over them.
use Rattle.std.specs.Prelude.{ℕ, ◌≡◌, ◌↔◌, Bool, true, List, [], ◌∷◌, Contains}
use Rattle.std.specs.List.{list_any}
use Rattle.fx_store_pairs.specs.Pairs.{joined, is_pair}

pub record IsEquivalence (R : ℕ → ℕ → Type 0) : Type 0 where
  pub itself : (name : ℕ) → R name name
  pub turned : (one other : ℕ) → R one other → R other one
  pub onwards : (one middle other : ℕ) → R one middle → R middle other → R one other

abbrev pub JoiningIsAnEquivalence : Type 0
JoiningIsAnEquivalence =
    (pairs : List (ℕ × ℕ)) → IsEquivalence (λ (one other : ℕ). joined pairs one other ≡ true)

abbrev pub PairsAreJoined : Type 0
PairsAreJoined =
    (pairs : List (ℕ × ℕ)) (pair : ℕ × ℕ) → Contains pairs pair → joined pairs pair.0 pair.1 ≡ true

abbrev pub JoiningIsLeast : Type 0
JoiningIsLeast =
    (pairs : List (ℕ × ℕ)) (test : ℕ → ℕ → Bool)
    → IsEquivalence (λ (one other : ℕ). test one other ≡ true)
    → ((pair : ℕ × ℕ) → Contains pairs pair → test pair.0 pair.1 ≡ true)
    → (one other : ℕ) → joined pairs one other ≡ true → test one other ≡ true

-- the names lead from the one to the other, each two that follow one another a pair, in either direction
abbrev pub IsWalk : List (ℕ × ℕ) → ℕ → List ℕ → ℕ → Type 0
IsWalk pairs one [] other = one ≡ other
IsWalk pairs one (next ∷ names) other = (list_any (is_pair one next) pairs ≡ true) × IsWalk pairs next names other

abbrev pub JoinedIsWalked : Type 0
JoinedIsWalked =
    (pairs : List (ℕ × ℕ)) (one other : ℕ)
    → (joined pairs one other ≡ true) ↔ ((names : List ℕ) × IsWalk pairs one names other)
