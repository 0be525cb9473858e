-- Why a property has its value: all that speaks for it, in the order of the cascade.
use Rattle.std.specs.Prelude.{ℕ, ◌≡◌, List, [], ◌∷◌, map, Some, None}
use Rattle.std.specs.List.Sorted.{IsPermutation, IsSortedBy}
use Rattle.fx_look.specs.declared.styles.CodeValue.{CodeValue}
use Rattle.fx_css_types.specs.declared.sheets.SheetAt.{SheetAt}
use Rattle.fx_css_types.specs.declared.sheets.Candidate.{Candidate}
use Rattle.fx_cascade.specs.declared.sources.Source.{Source}
use Rattle.fx_cascade.specs.Ranks.{is_below}
use Rattle.fx_cascade.specs.Sources.{sources_for, voices}
use Rattle.fx_explain.specs.declared.explained.Explained.{Explained}
use Rattle.fx_explain.specs.declared.explained.Loser.{Loser}
use Rattle.fx_explain.specs.Cuts.{cut_of}

abbrev pub loser_of : List Candidate → Source → Source → Loser
loser_of matched winner source = record { source = source; cut = cut_of matched winner source }

-- what is told of these, the greatest of which stands first
abbrev pub told_of : List Candidate → List Source → Explained
told_of matched [] = record { winner = None; losers = [] }
told_of matched (winner ∷ losers) =
    record { winner = Some winner; losers = map (loser_of matched winner) losers }

-- none is below one that stands behind it
abbrev pub AreFalling : List Candidate → List Source → Type 0
AreFalling matched sources = IsSortedBy (λ one other. is_below matched other one) sources

-- all that speaks for the property, each once, in falling order: the first wins, and of the others is told by what
-- they are less than it
pub record IsExplained (sheets : List SheetAt) (matched : List Candidate) (codes : List CodeValue) (name : List ℕ)
    (told : Explained) : Type 0 where
  pub order : List Source
  pub complete : IsPermutation (sources_for name (voices sheets matched codes)) order
  pub falling : AreFalling matched order
  pub is : told ≡ told_of matched order
