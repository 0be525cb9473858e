-- The numbers of listeners whose paths were written.
use Rattle.std.proofs.Common.{◌≡◌, ◌≤◌, ◌<◌, ◌+◌, ℕ, Bool, true, false, cond, eqb, List, [], ◌∷◌, All, Some, None, arith, refl, ◌∙◌, ap}
use Rattle.std.specs.Map.{lookup}
use Rattle.std.proofs.lemmas.Bool.{eqb-true}
use Rattle.std.proofs.lemmas.List.Elements.{All-cons, All-head, All-nil, All-tail}

-- no number that was given is that of a new listener
pub none_less : (number : ℕ) (ws : List (ℕ × List (List ℕ))) → All (λ (e : ℕ × List (List ℕ)). e.0 < number) ws
    → lookup (eqb number) ws ≡ None
none_less number [] all = refl
none_less number (e ∷ ws) all =
    let less : e.0 < number = All-head (λ (e : ℕ × List (List ℕ)). e.0 < number) e ws all in
    ap (λ (b : Bool). cond b (Some e.1) (lookup (eqb number) ws)) (apart (eqb number e.0) refl less)
    ∙ none_less number ws (All-tail (λ (e : ℕ × List (List ℕ)). e.0 < number) e ws all)
  where
    apart : (b : Bool) → eqb number e.0 ≡ b → e.0 < number → b ≡ false
    apart true is less = absurd (let same : number ≡ e.0 = eqb-true number e.0 is in omega (arith, same, less))
    apart false is less = refl

-- what was given before is less than the next number
pub all_next : (given : ℕ) (ws : List (ℕ × List (List ℕ))) → All (λ (e : ℕ × List (List ℕ)). e.0 ≤ given) ws
    → All (λ (e : ℕ × List (List ℕ)). e.0 < given + 1) ws
all_next given [] all = All-nil (λ (e : ℕ × List (List ℕ)). e.0 < given + 1)
all_next given (e ∷ ws) all =
    let first : e.0 ≤ given = All-head (λ (e : ℕ × List (List ℕ)). e.0 ≤ given) e ws all in
    All-cons (λ (e : ℕ × List (List ℕ)). e.0 < given + 1) e ws (omega (arith, first))
    (all_next given ws (All-tail (λ (e : ℕ × List (List ℕ)). e.0 ≤ given) e ws all))
