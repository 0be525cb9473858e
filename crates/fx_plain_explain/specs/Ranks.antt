-- The lines of output that tell why a property has its value.
use Rattle.std.specs.Prelude.{ℕ, ◌+◌, List, [], ◌∷◌, ◌++◌, codes, Option, Some, None}
use Rattle.std.specs.Fmt.{decimal}
use Rattle.std.specs.List.{flat_map}
use Rattle.std.specs.Option.{option_map_or}
use Rattle.fx_cascade.specs.declared.sources.Source.{Source}
use Rattle.fx_css_types.specs.declared.sheets.Candidate.{Candidate}
use Rattle.fx_css_types.specs.declared.sheets.SheetAt.{SheetAt}
use Rattle.fx_css_types.specs.declared.sheets.SheetOrigin.{SheetOrigin}
use Rattle.fx_css_types.specs.declared.sheets.SheetOrigin.TheVariants as origin
use Rattle.fx_explain.specs.Told.{rank_of}
use Rattle.fx_explain.specs.declared.cuts.Cut.{Cut}
use Rattle.fx_explain.specs.declared.cuts.Cut.TheVariants as cut
use Rattle.fx_explain.specs.declared.explained.Explained.{Explained}
use Rattle.fx_explain.specs.declared.explained.Loser.{Loser}
use Rattle.fx_explain.specs.declared.told.Rank.{Rank}
use Rattle.fx_explain.specs.declared.told.Rank.TheVariants as rank
use Rattle.fx_stage_text.specs.Printing.{ended}
use Rattle.fx_text.specs.Characters.{space}

abbrev pub origin_text : SheetOrigin → List ℕ
origin_text origin.Agent = codes "agent"
origin_text origin.Scene = codes "scene"
origin_text (origin.Parent depth) = codes "parent:" ++ decimal depth
origin_text origin.Inline = codes "inline"

-- three numbers
abbrev pub three : ℕ → ℕ → ℕ → List ℕ
three a b c = decimal a ++ (space ∷ (decimal b ++ (space ∷ decimal c)))

-- `ORIGIN A B C SHEET RULE PLACE`, the last three of which count from 1
unfoldable pub declared_text : SheetOrigin → ℕ × ℕ × ℕ → ℕ → ℕ → ℕ → List ℕ
declared_text from weight sheet rule place =
    origin_text from ++ (space ∷ (three weight.0 weight.1 weight.2
    ++ (space ∷ three (sheet + 1) (rule + 1) (place + 1))))

abbrev pub rank_text : Rank → List ℕ
rank_text rank.Bound = codes "bound"
rank_text rank.Code = codes "code"
rank_text (rank.Declared from weight sheet rule place) = declared_text from weight sheet rule place

-- what speaks is told by its rank, which a declaration has that stands in one of the matches
abbrev pub source_text : List SheetAt → List ℕ → List Candidate → Source → List ℕ
source_text sheets seen matched source = option_map_or rank_text (rank_of sheets seen matched source) []

abbrev pub cut_text : Cut → List ℕ
cut_text cut.Bound = codes "bound"
cut_text cut.Origin = codes "origin"
cut_text cut.Specificity = codes "specificity"
cut_text cut.Sheet = codes "sheet"
cut_text cut.Rule = codes "rule"
cut_text cut.Place = codes "place"

abbrev pub winner_text : (Source → List ℕ) → Option Source → List ℕ
winner_text shown None = codes "none"
winner_text shown (Some source) = shown source

-- `win RANK`, or `win none`
unfoldable pub winner_line : (Source → List ℕ) → Option Source → List ℕ
winner_line shown winner = codes "win " ++ ended (winner_text shown winner)

-- `lose RANK CUT`
unfoldable pub loser_line : (Source → List ℕ) → Loser → List ℕ
loser_line shown loser = codes "lose " ++ (shown loser.source ++ (space ∷ ended (cut_text loser.cut)))

-- the winner, and then each that loses
abbrev pub explanation_lines : (Source → List ℕ) → Explained → List ℕ
explanation_lines shown told = winner_line shown told.winner ++ flat_map (loser_line shown) told.losers
