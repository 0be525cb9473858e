-- Birth numbers in order.
use Rattle.std.specs.Prelude.{◌<◌, ℕ, Bool, ◌==◌, List, [], ◌∷◌, Option, Some, None, map, min, if◌then◌else◌}
use Rattle.std.specs.List.{list_any}
use Rattle.fx_picture.specs.declared.entries.Entry.{Entry}

abbrev pub birth_numbers : List Entry → List ℕ
birth_numbers entries = map (λ (e : Entry). e.key.birth) entries

abbrev pub is_among : List ℕ → ℕ → Bool
is_among numbers k = list_any (λ b. b == k) numbers

-- each number is below all that follow it
abbrev pub AllAbove : ℕ → List ℕ → Type 0
AllAbove b [] = Unit {0}
AllAbove b (c ∷ cs) = (b < c) × AllAbove b cs

abbrev pub RisesStrictly : List ℕ → Type 0
RisesStrictly [] = Unit {0}
RisesStrictly (b ∷ bs) = AllAbove b bs × RisesStrictly bs

-- the birth number of the first entry
abbrev pub first_birth : List Entry → Option ℕ
first_birth [] = None
first_birth (e ∷ es) = Some e.key.birth

-- the lesser one
abbrev pub lesser : Option ℕ → Option ℕ → Option ℕ
lesser None o = o
lesser (Some b) None = Some b
lesser (Some b) (Some c) = Some (min b c)

-- the first entry, if it has this birth number, and the entries behind it
abbrev pub first_with : ℕ → List Entry → Option Entry
first_with b [] = None
first_with b (e ∷ es) = if e.key.birth == b then Some e else None

abbrev pub behind : ℕ → List Entry → List Entry
behind b [] = []
behind b (e ∷ es) = if e.key.birth == b then es else e ∷ es
