-- Caps that are filled up to a level.
use Rattle.std.specs.Prelude.{ℕ, ◌+◌, ◌-◌, List, [], ◌∷◌, min, nat_le, nat_lt, if◌then◌else◌}

-- how much the caps hold below the level
abbrev pub filled : ℕ → List ℕ → ℕ
filled level [] = 0
filled level (cap ∷ caps) = min cap level + filled level caps

-- the caps up to a level, and of those above it the first `more` one above the level and the rest at it
abbrev pub levelled : ℕ → ℕ → List ℕ → List ℕ
levelled level more [] = []
levelled level more (cap ∷ caps) =
    if nat_le cap level then cap ∷ levelled level more caps
    else (if nat_lt 0 more then (level + 1) ∷ levelled level (more - 1) caps else level ∷ levelled level more caps)
