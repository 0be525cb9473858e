-- Names in rising order, among which one is found by halves.
use Rattle.std.specs.Prelude.{ℕ, nat_le, Bool, true, ◌&&◌, List, [], ◌∷◌}
use Rattle.std.specs.List.Sorted.{IsNonDecreasingBy}
use Rattle.fx_base.specs.declared.keys.Name.{Name}

abbrev pub DoRise : List Name → Type 0
DoRise names = IsNonDecreasingBy (λ (name : Name). name.0) names

-- none is below the one before it, the first not below this number
abbrev pub rises_from : ℕ → List ℕ → Bool
rises_from last [] = true
rises_from last (name ∷ names) = nat_le last name && rises_from name names
