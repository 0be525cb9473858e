-- The line of a node, from the root down to it, and its path of child places.
use Rattle.std.specs.Prelude.{◌≡◌, ℕ, zero, suc, ◌<◌, ◌++◌, List, [], ◌∷◌, count_by, length, take, Option, Some, None}
use Rattle.std.specs.List.{flat_map}
use Rattle.std.specs.Cmp.Lexicographic.{slice_cmp}
use Rattle.std.specs.Ordering.{nat_cmp}
use Rattle.std.specs.declared.cmp.Ordering.TheVariants.{Less}
use Rattle.fx_layout_sweeps.specs.Nodes.{Parents, is_place, parent_at}

-- at most so many places, up by parents, the farthest first
unfoldable pub line_in : ℕ → Parents → Option ℕ → List ℕ
line_in zero ups place = []
line_in (suc most) ups None = []
line_in (suc most) ups (Some k) = line_in most ups (parent_at ups k) ++ k ∷ []

-- the places from the root down to a node, where each parent stands before its children
unfoldable pub line_to : Parents → ℕ → List ℕ
line_to ups k = line_in (suc k) ups (Some k)

-- where a node stands among the children of its parent, of which it has none or one
abbrev pub step_below : Parents → ℕ → Option ℕ → List ℕ
step_below ups k None = []
step_below ups k (Some p) = count_by (is_place p) (take k ups) ∷ []

unfoldable pub step_to : Parents → ℕ → List ℕ
step_to ups k = step_below ups k (parent_at ups k)

-- the places among the children, from the root down to a node
abbrev pub path_of : Parents → ℕ → List ℕ
path_of ups k = flat_map (step_to ups) (line_to ups k)

-- the nodes rise by their paths, which is pre-order
abbrev pub AreInOrder : Parents → Type 0
AreInOrder ups =
    (k : ℕ) → suc k < length ups → slice_cmp nat_cmp (path_of ups k) (path_of ups (suc k)) ≡ Less
