-- At most three pixels that are written one by one.
use Rattle.std.proofs.Common.{◌≡◌, ◌<◌, ◌-◌, ◌/◌, ℕ, List, [], ◌∷◌, length, set, replicate, refl, arith}

pub three_writes : (xs : List ℕ) (color : ℕ) → length xs < 4
    → set (set (set xs 0 color) (length xs / 2) color) (length xs - 1) color ≡ replicate (length xs) color
three_writes [] color few = refl
three_writes (a ∷ []) color few = refl
three_writes (a ∷ b ∷ []) color few = refl
three_writes (a ∷ b ∷ c ∷ []) color few = refl
three_writes (a ∷ b ∷ c ∷ d ∷ xs) color few = absurd (omega (arith, few))
