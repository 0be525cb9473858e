-- The paths of an expression: each different one once, in order of first occurrence.
use Rattle.std.specs.Prelude.{ℕ, Bool, not, nat_eq, List, [], ◌∷◌, ◌++◌, if◌then◌else◌, filter, length, position, unwrap_or}
use Rattle.std.specs.List.{list_any}
use Rattle.std.specs.Cmp.Lexicographic.{pointwise}
use Rattle.fx_expr.specs.declared.tokens.Token.{Token}
use Rattle.fx_expr.specs.declared.tokens.Token.TheVariants.{Constant, Path, Opening, Closing, Exclamation, Binary}

-- are they one path, name by name?
unfoldable pub same_path : List (List ℕ) → List (List ℕ) → Bool
same_path a b = pointwise (λ m n. pointwise nat_eq m n) a b

-- the paths of the tokens as they stand
abbrev pub paths_in : List Token → List (List (List ℕ))
paths_in [] = []
paths_in (Path names ∷ tokens) = names ∷ paths_in tokens
paths_in (Constant v ∷ tokens) = paths_in tokens
paths_in (Opening ∷ tokens) = paths_in tokens
paths_in (Closing ∷ tokens) = paths_in tokens
paths_in (Exclamation ∷ tokens) = paths_in tokens
paths_in (Binary sign ∷ tokens) = paths_in tokens

-- each different one once, where it stands first
unfoldable pub once : List (List (List ℕ)) → List (List (List ℕ))
once [] = []
once (p ∷ ps) = p ∷ filter (λ q. not (same_path p q)) (once ps)

-- the place of a path in a list, or the length of the list where it isn't there
unfoldable pub place_in : List (List (List ℕ)) → List (List ℕ) → ℕ
place_in paths path = unwrap_or (position (λ p. same_path p path) paths) (length paths)

-- the different paths so far and the token's, if it is a path
abbrev pub with_path : List (List (List ℕ)) → Token → List (List (List ℕ))
with_path paths (Path names) = if list_any (λ path. same_path path names) paths then paths else paths ++ (names ∷ [])
with_path paths (Constant v) = paths
with_path paths Opening = paths
with_path paths Closing = paths
with_path paths Exclamation = paths
with_path paths (Binary sign) = paths
