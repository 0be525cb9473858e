-- For each name the names that stand in a pair with it.
use Rattle.std.specs.Prelude.{ℕ, ◌≡◌, ◌==◌, ◌-◌, nat_eq, if◌then◌else◌, List, [], ◌∷◌, length, take}
use Rattle.std.specs.HashMap.{get}
use Rattle.std.specs.Option.{option_map_or}
use Rattle.std.specs.Set.{remove_key}
use Rattle.fx_base.specs.Names.{numbers}
use Rattle.fx_store_pairs.specs.declared.rows.Rows.{Rows}

-- the other end of each pair that this name is an end of, in the order of the pairs; a pair of the name with itself
-- gives the name once
abbrev pub with_other_end : ℕ → ℕ × ℕ → List ℕ → List ℕ
with_other_end name pair others =
    if pair.0 == name then pair.1 ∷ others else (if pair.1 == name then pair.0 ∷ others else others)

abbrev pub partners : ℕ → List (ℕ × ℕ) → List ℕ
partners name [] = []
partners name (pair ∷ pairs) = with_other_end name pair (partners name pairs)

-- the names of a row; a name without a row has none
abbrev pub row : Rows → ℕ → List ℕ
row rows name = numbers (option_map_or (λ others. others.items) (get nat_eq rows.rows name) [])

abbrev pub AreRows : Rows → List (ℕ × ℕ) → Type 0
AreRows rows pairs = (name : ℕ) → row rows name ≡ partners name pairs

abbrev pub without_last : List ℕ → List ℕ
without_last names = take (length names - 1) names

-- what is left of the partners of a name at the end of the first pair of the two, of which it may be one
abbrev pub without_partner : ℕ → ℕ → ℕ → List ℕ → List ℕ
without_partner one other name others =
    if one == name
    then remove_key (λ (partner : ℕ). partner == other) others
    else (if other == name then remove_key (λ (partner : ℕ). partner == one) others else others)
