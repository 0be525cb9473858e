use Rattle.std.proofs.Common.{◌≡◌, ◌<◌, ℕ, zero, suc, [], ◌∷◌, get_or, subst, arith}
use Rattle.fx_expr_tests.proofs.expressions.rest_of_third.Goals as goal

below : (place name count : ℕ) → place < 2 → get_or (2 ∷ 0 ∷ []) place name ≡ name → 2 < count → name < count
below zero name count within here room = subst (λ n. n < count) here room
below (suc zero) name count within here room = subst (λ n. n < count) here (omega arith)
below (suc (suc place)) name count within here room = absurd (omega arith)

pub number_over-requires-clause-names : goal.number_over-requires-clause-names
number_over-requires-clause-names c = λ name among. below among.0 name _ among.1 among.2 c.requires
