-- Properties by their numbers.
use Rattle.std.specs.Prelude.{ℕ, List, map}
use Rattle.fx_base.specs.declared.keys.Name.{Name}

abbrev pub name_of : ℕ → Name
name_of number = record { 0 = number }

abbrev pub numbers : List Name → List ℕ
numbers names = map (λ (name : Name). name.0) names
