-- What the code compares of two that speak for a property.
use Rattle.std.specs.Prelude.{ℕ, ◌≡◌, nat_lt, ◌&&◌, not, List, [], ◌∷◌, if◌then◌else◌}
use Rattle.fx_css_types.specs.declared.sheets.Candidate.{Candidate}
use Rattle.fx_cascade.specs.declared.sources.Source.{Source}
use Rattle.fx_cascade.specs.Ranks.{key, precedes}
use Rattle.fx_explain.specs.declared.cuts.Cut.{Cut}
use Rattle.fx_explain.specs.declared.cuts.Cut.TheVariants.{Bound, Origin, Specificity, Sheet, Rule, Place}
use Rattle.fx_explain.specs.declared.cuts.Standing.{Standing}
use Rattle.fx_explain.specs.Cuts.{is_bound}

abbrev pub standing_key : Standing → List ℕ
standing_key s =
    s.origin.0 ∷ s.origin.1 ∷ s.specificity.0 ∷ s.specificity.1 ∷ s.specificity.2 ∷ s.sheet ∷ s.rule ∷ s.place ∷ []

-- the standing of what speaks
pub record IsStanding (matched : List Candidate) (source : Source) (s : Standing) : Type 0 where
  pub bound : s.bound ≡ is_bound source
  pub keyed : standing_key s ≡ key matched source

abbrev pub cut_of_place : Standing → Standing → Cut
cut_of_place winner loser =
    if nat_lt loser.sheet winner.sheet then Sheet else (if nat_lt loser.rule winner.rule then Rule else Place)

abbrev pub origin_key : Standing → List ℕ
origin_key s = s.origin.0 ∷ s.origin.1 ∷ []

abbrev pub specificity_key : Standing → List ℕ
specificity_key s = s.specificity.0 ∷ s.specificity.1 ∷ s.specificity.2 ∷ []

abbrev pub cut_between : Standing → Standing → Cut
cut_between winner loser =
    if winner.bound && not loser.bound then Bound
    else (if precedes (origin_key loser) (origin_key winner) then Origin
    else (if precedes (specificity_key loser) (specificity_key winner) then Specificity
    else cut_of_place winner loser))
