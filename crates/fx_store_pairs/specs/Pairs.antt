-- Properties that are joined by pairs, so that they change together. Source: JavaFX 21 `bindBidirectional`.
use Rattle.std.specs.Prelude.{ℕ, ◌==◌, Bool, if◌then◌else◌, ◌&&◌, ◌||◌, List, [], ◌∷◌, filter, map}
use Rattle.std.specs.List.{list_any, range_with_len}
use Rattle.fx_base.specs.declared.keys.Name.{Name}

abbrev pub is_among : List ℕ → ℕ → Bool
is_among names name = list_any (λ (other : ℕ). other == name) names

-- the numbers of the two names of each
abbrev pub pairs_of : List (Name × Name) → List (ℕ × ℕ)
pairs_of pairs = map (λ (pair : Name × Name). (pair.0.0, pair.1.0)) pairs

-- a walk over the pairs, each in either direction, leads from one to the other: over all but the first pair, or over it
-- once, from either of its ends
unfoldable pub joined : List (ℕ × ℕ) → ℕ → ℕ → Bool
joined [] one other = one == other
joined (pair ∷ pairs) one other =
    joined pairs one other
    || ((joined pairs one pair.0 && joined pairs pair.1 other)
    || (joined pairs one pair.1 && joined pairs pair.0 other))

-- those of so many names that are joined with this one, itself among them, rising
abbrev pub group : List (ℕ × ℕ) → ℕ → ℕ → List ℕ
group pairs size name = filter (joined pairs name) (range_with_len 0 size)

abbrev pub is_end : ℕ → ℕ × ℕ → Bool
is_end name pair = (pair.0 == name) || (pair.1 == name)

abbrev pub is_paired : List (ℕ × ℕ) → ℕ → Bool
is_paired pairs name = list_any (is_end name) pairs

-- the pair of the two, in either order
abbrev pub is_pair : ℕ → ℕ → ℕ × ℕ → Bool
is_pair one other pair = ((pair.0 == one) && (pair.1 == other)) || ((pair.0 == other) && (pair.1 == one))

-- the first pair of the two is gone
abbrev pub without_pair : ℕ → ℕ → List (ℕ × ℕ) → List (ℕ × ℕ)
without_pair one other [] = []
without_pair one other (pair ∷ pairs) = if is_pair one other pair then pairs else pair ∷ without_pair one other pairs

-- one of the pair's ends is among the names
abbrev pub is_touched : List ℕ → ℕ × ℕ → Bool
is_touched names pair = is_among names pair.0 || is_among names pair.1
