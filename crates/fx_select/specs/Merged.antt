-- Hits in the order of their rules: those of one rule, which stand behind one another, are made one.
use Rattle.std.specs.Prelude.{ℕ, ◌≡◌, ◌==◌, nat_lt, Bool, true, false, ◌&&◌, ◌||◌, List, [], ◌∷◌, if◌then◌else◌}
use Rattle.std.specs.List.Sorted.{IsPermutation, IsSortedByKey, IsStableByKey}
use Rattle.std.specs.Ordering.{nat_cmp, ordering_then}
use Rattle.std.specs.declared.cmp.Ordering.{Ordering}
use Rattle.fx_css_types.specs.declared.sheets.Candidate.{Candidate}
use Rattle.fx_select.specs.Strongest.{greater}

abbrev pub place_of : Candidate → ℕ × ℕ
place_of hit = (hit.sheet, hit.rule)

-- by sheet, then by rule
abbrev pub compare_places : ℕ × ℕ → ℕ × ℕ → Ordering
compare_places one other = ordering_then (nat_cmp one.0 other.0) (nat_cmp one.1 other.1)

abbrev pub is_same_rule : Candidate → Candidate → Bool
is_same_rule one other = (one.sheet == other.sheet) && (one.rule == other.rule)

abbrev pub is_before : Candidate → Candidate → Bool
is_before one other = nat_lt one.sheet other.sheet || ((one.sheet == other.sheet) && nat_lt one.rule other.rule)

-- each stands behind the rule of the one before it
abbrev pub rise_behind : Candidate → List Candidate → Bool
rise_behind one [] = true
rise_behind one (hit ∷ more) = if is_before one hit then rise_behind hit more else false

abbrev pub rise : List Candidate → Bool
rise [] = true
rise (first ∷ more) = rise_behind first more

-- with the greater of the two specificities
abbrev pub raised : Candidate → Candidate → Candidate
raised one hit = record one { specificity = greater one.specificity hit.specificity }

-- a rule and those of the hits behind it
abbrev pub merged : Candidate → List Candidate → List Candidate
merged one [] = one ∷ []
merged one (hit ∷ more) = if is_same_rule one hit then merged (raised one hit) more else one ∷ merged hit more

abbrev pub merged_of : List Candidate → List Candidate
merged_of [] = []
merged_of (first ∷ more) = merged first more

-- put in order, those of one rule as they stood, and then made one
pub record AreMerged (hits found : List Candidate) : Type 0 where
  pub sorted : List Candidate
  pub permutation : IsPermutation hits sorted
  pub stable : IsStableByKey place_of compare_places hits sorted
  pub order : IsSortedByKey place_of compare_places sorted
  pub merged : found ≡ merged_of sorted
