-- The keys that the code's ranks stand for.
use Rattle.std.specs.Prelude.{ℕ, List, [], ◌∷◌}
use Rattle.fx_cascade.specs.declared.ranks.Rank.{Rank}

-- sheet; rule; place in the rule
abbrev pub place_key : Rank → List ℕ
place_key r = r.sheet ∷ r.rule ∷ r.place ∷ []

-- ids; classes and pseudo-classes; types
abbrev pub weight_key : Rank → List ℕ
weight_key r = r.specificity.0 ∷ r.specificity.1 ∷ r.specificity.2 ∷ place_key r

abbrev pub rank_key : Rank → List ℕ
rank_key r = r.origin.0 ∷ r.origin.1 ∷ weight_key r
