-- Many paths that are looked up, from the last one to the first.
use Rattle.std.proofs.Common.{◌≡◌, ◌∙◌, ◌<◌, ◌≤◌, ◌+◌, ◌-◌, ℕ, suc, add-one, arith, drop, drop-cons, get_or, length, map, sym, List, [], ◌∷◌, ◌++◌, reverse, Option, Some, None, Result, Ok, Err, refl, ap}
use Rattle.std.proofs.lemmas.List.{drop_all, reverse-append}
use Rattle.fx_base.specs.declared.keys.Name.{Name}
use Rattle.fx_stage_types.specs.declared.refusals.Refusal.{Refusal}
use Rattle.fx_stage_model.specs.Answers.{all, and_then, both, earlier}
use Rattle.fx_stage_model.specs.Looking.{find}
use Rattle.fx_stage_model.specs.World.{World}
use Rattle.fx_stage.specs.Finding.{found_last_first}

abbrev pub in_front : Name × List Name → Result (List Name) Refusal
in_front found = Ok (found.0 ∷ found.1)

pub name_more : (name : Name) (names : List Name) (word : Option Refusal)
    → found_last_first (names ++ name ∷ []) word ≡ and_then (both (Ok name) (found_last_first names word)) in_front
name_more name names None = ap Ok (reverse-append names (name ∷ []))
name_more name names (Some word) = refl

module _ (world : World) (paths : List (List (List ℕ))) where
  pub none_left : Ok (reverse []) ≡ all (map (find world) (drop (length paths) paths))
  unfolding all
  none_left = sym (ap (λ (ps : List (List (List ℕ))). all (map (find world) ps)) (drop_all (length paths) paths (omega arith)))

  pub one_more : (place : ℕ) (path : List (List ℕ)) (names : List Name) (word : Option Refusal) → 0 < place
      → place ≤ length paths → path ≡ get_or paths (place - 1) path
      → found_last_first names word ≡ all (map (find world) (drop place paths))
      → and_then (both (find world path) (found_last_first names word)) in_front
      ≡ all (map (find world) (drop (place - 1) paths))
  unfolding all
  one_more place path names word some within is found =
      let step : place - 1 + 1 ≡ place = omega (arith, some) in
      let next : suc (place - 1) ≡ place = sym (add-one (place - 1)) ∙ step in
      ap (λ (r : Result (List Name) Refusal). and_then (both (find world path) r) in_front) found
      ∙ ap
      (λ (ps : List (List (List ℕ))). and_then (both (find world path) (all (map (find world) ps))) in_front)
      (ap (λ (n : ℕ). drop n paths) (sym next))
      ∙ ap
      (λ (p : List (List ℕ)).
      and_then (both (find world p) (all (map (find world) (drop (suc (place - 1)) paths)))) in_front)
      is
      ∙ sym
      (ap (λ (ps : List (List (List ℕ))). all (map (find world) ps))
      (drop-cons paths (place - 1) path (omega (arith, some, within))))
