-- What is told to users of one that speaks for a property.
use Rattle.std.specs.Prelude.{ℕ, ◌==◌, nat_lt, ◌&&◌, Bool, true, false, List, count_by, slice_get, Option, Some, None}
use Rattle.fx_css_types.specs.declared.sheets.SheetAt.{SheetAt}
use Rattle.fx_css_types.specs.declared.sheets.Candidate.{Candidate}
use Rattle.fx_css_types.specs.declared.sheets.SheetOrigin.{SheetOrigin}
use Rattle.fx_css_types.specs.declared.sheets.SheetOrigin.TheVariants.{Agent, Scene, Parent, Inline}
use Rattle.fx_cascade.specs.declared.sources.Source.{Source}
use Rattle.fx_cascade.specs.declared.sources.Source.TheVariants.{Code, Declared}
use Rattle.fx_explain.specs.declared.told.Rank.{Rank}
use Rattle.fx_explain.specs.declared.told.Rank.TheVariants as rank

abbrev pub same_origin : SheetOrigin → SheetOrigin → Bool
same_origin Agent Agent = true
same_origin Scene Scene = true
same_origin (Parent depth) (Parent other) = depth == other
same_origin Inline Inline = true
same_origin one other = false

abbrev pub has_origin : Option SheetAt → SheetOrigin → Bool
has_origin None origin = false
has_origin (Some sheet) origin = same_origin sheet.origin origin

-- a sheet of the match's origin that stands before its own
abbrev pub is_before : List SheetAt → Candidate → ℕ → Bool
is_before sheets c sheet = nat_lt sheet c.sheet && has_origin (slice_get sheets sheet) c.origin

-- how many such sheets are seen
abbrev pub sheet_number : List SheetAt → List ℕ → Candidate → ℕ
sheet_number sheets seen c = count_by (is_before sheets c) seen

abbrev pub match_rank : List SheetAt → List ℕ → Option Candidate → ℕ → Option Rank
match_rank sheets seen None place = None
match_rank sheets seen (Some c) place =
    Some (rank.Declared c.origin c.specificity (sheet_number sheets seen c) c.rule place)

abbrev pub rank_of : List SheetAt → List ℕ → List Candidate → Source → Option Rank
rank_of sheets seen matched (Code true) = Some rank.Bound
rank_of sheets seen matched (Code false) = Some rank.Code
rank_of sheets seen matched (Declared at place) = match_rank sheets seen (slice_get matched at) place
