-- By what one that speaks for a property is less than the winner.
use Rattle.std.specs.Prelude.{ℕ, ◌≡◌, ◌⊎◌, Bool, true, false, List, [], ◌∷◌, take, drop, unwrap_or, if◌then◌else◌}
use Rattle.std.specs.List.{find}
use Rattle.fx_css_types.specs.declared.sheets.Candidate.{Candidate}
use Rattle.fx_cascade.specs.declared.sources.Source.{Source}
use Rattle.fx_cascade.specs.declared.sources.Source.TheVariants.{Code, Declared}
use Rattle.fx_cascade.specs.Ranks.{key, precedes}
use Rattle.fx_explain.specs.declared.cuts.Cut.{Cut}
use Rattle.fx_explain.specs.declared.cuts.Cut.TheVariants.{Bound, Origin, Specificity, Sheet, Rule, Place}

abbrev pub is_bound : Source → Bool
is_bound (Code bound) = bound
is_bound (Declared at place) = false

-- what is compared, in this order
abbrev pub cuts : List Cut
cuts = Bound ∷ Origin ∷ Specificity ∷ Sheet ∷ Rule ∷ Place ∷ []

-- the numbers that are compared here; a key has two numbers of the origin, three of the specificity, and the places of
-- sheet, rule and declaration
abbrev pub part_of : Cut → Bool → List ℕ → List ℕ
part_of Bound bound key = (if bound then 1 else 0) ∷ []
part_of Origin bound key = take 2 key
part_of Specificity bound key = take 3 (drop 2 key)
part_of Sheet bound key = take 1 (drop 5 key)
part_of Rule bound key = take 1 (drop 6 key)
part_of Place bound key = take 1 (drop 7 key)

abbrev pub part : List Candidate → Source → Cut → List ℕ
part matched source cut = part_of cut (is_bound source) (key matched source)

abbrev pub is_less_in : List Candidate → Source → Source → Cut → Bool
is_less_in matched winner loser cut = precedes (part matched loser cut) (part matched winner cut)

-- the first part in which the loser is less than the winner; the last part where it is less in none
unfoldable pub cut_of : List Candidate → Source → Source → Cut
cut_of matched winner loser = unwrap_or (find (is_less_in matched winner loser) cuts) Place

-- the first of these that is less, and all before it are the same
abbrev pub IsFirst : (Cut → Type 0) → (Cut → Type 0) → List Cut → Cut → Type 0
IsFirst Less Same [] cut = ⊥
IsFirst Less Same (first ∷ rest) cut = ((cut ≡ first) × Less first) ⊎ (Same first × IsFirst Less Same rest cut)

-- the loser is less than the winner in this part, and the same in each part before it
abbrev pub IsCut : List Candidate → Source → Source → Cut → Type 0
IsCut matched winner loser cut =
    IsFirst (λ c. is_less_in matched winner loser c ≡ true) (λ c. part matched loser c ≡ part matched winner c)
    cuts cut
