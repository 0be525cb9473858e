-- Paths as they are kept, and as contracts see them.
use Rattle.std.proofs.Common.{◌≡◌, refl, ap, cond, ℕ, List, [], ◌∷◌, ◌++◌, Bool, true, false, not, filter, Some, Vec}
use Rattle.std.specs.Global.{Global}
use Rattle.std.specs.Map.{lookup}
use Rattle.fx_base.specs.declared.keys.NodeKey.{NodeKey}
use Rattle.fx_tree.specs.Scene.{has}
use Rattle.fx_stage_types.specs.Tables.{node_at, same_path, without_paths}
use Rattle.fx_stage_tables.specs.Given.{path_of, paths_of}

-- a path is found as it is kept
pub found : (path : List (List ℕ)) (entries : List (Vec (List ℕ) Global × NodeKey))
    → lookup (λ (kept : Vec (List ℕ) Global). same_path path kept.items) entries ≡ node_at (paths_of entries) path
unfolding node_at
found path [] = refl
found path (e ∷ es) = ap (cond (same_path path e.0.items) (Some e.1)) (found path es)

-- one more path goes last
pub pushed : (entries : List (Vec (List ℕ) Global × NodeKey)) (entry : Vec (List ℕ) Global × NodeKey)
    → paths_of (entries ++ entry ∷ []) ≡ paths_of entries ++ path_of entry ∷ []
pushed [] entry = refl
pushed (e ∷ es) entry = ap (λ (rest : List (List (List ℕ) × NodeKey)). path_of e ∷ rest) (pushed es entry)

-- the paths of nodes that are none of these
pub without : (keys : List NodeKey) (entries : List (Vec (List ℕ) Global × NodeKey))
    → paths_of (filter (λ (e : Vec (List ℕ) Global × NodeKey). not (has keys e.1)) entries) ≡ without_paths keys (paths_of entries)
without keys [] = refl
without keys (e ∷ es) = by_test (not (has keys e.1)) (without keys es)
  where
    by_test : (b : Bool) → paths_of (filter (λ (e : Vec (List ℕ) Global × NodeKey). not (has keys e.1)) es) ≡ without_paths keys (paths_of es)
        → paths_of (cond b (e ∷ filter (λ (e : Vec (List ℕ) Global × NodeKey). not (has keys e.1)) es) (filter (λ (e : Vec (List ℕ) Global × NodeKey). not (has keys e.1)) es))
        ≡ cond b (path_of e ∷ without_paths keys (paths_of es)) (without_paths keys (paths_of es))
    by_test true rest = ap (λ (more : List (List (List ℕ) × NodeKey)). path_of e ∷ more) rest
    by_test false rest = rest
