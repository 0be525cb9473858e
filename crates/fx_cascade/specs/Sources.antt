-- What speaks for a property of a node: the code value of its row, and each declaration of a rule that matches.
use Rattle.std.specs.Prelude.{ℕ, ◌≡◌, ◌⊎◌, ◌+◌, false, List, [], ◌∷◌, ◌++◌, map, filter, slice_get, Option, Some, None, option_and_then}
use Rattle.std.specs.Option.{option_map, option_map_or}
use Rattle.std.specs.Str.{bytes_eq}
use Rattle.fx_look.specs.StyleRows.{style_at}
use Rattle.fx_look.specs.declared.styles.CodeValue.{CodeValue}
use Rattle.fx_css_types.specs.declared.declarations.Declaration.{Declaration}
use Rattle.fx_css_types.specs.declared.sheets.Rule.{Rule}
use Rattle.fx_css_types.specs.declared.sheets.SheetAt.{SheetAt}
use Rattle.fx_css_types.specs.declared.sheets.Candidate.{Candidate}
use Rattle.fx_cascade.specs.declared.sources.Source.{Source}
use Rattle.fx_cascade.specs.declared.sources.Source.TheVariants.{Code, Declared}
use Rattle.fx_cascade.specs.declared.sources.Winner.{Winner}
use Rattle.fx_cascade.specs.declared.sources.Winner.TheVariants as winner
use Rattle.fx_cascade.specs.Ranks.{greatest, is_below}

-- the name of a row of the style table
abbrev pub row_name : ℕ → List ℕ
row_name row = option_map_or (λ r. r.name) (style_at row) []

-- the rule that a match names
abbrev pub rule_at : List SheetAt → Candidate → Option Rule
rule_at sheets c = option_and_then (λ (s : SheetAt). slice_get s.sheet.rules c.rule) (slice_get sheets c.sheet)

abbrev pub declarations_of : Option Rule → List Declaration
declarations_of None = []
declarations_of (Some r) = r.declarations

-- a value that code gives to the property of this name, bound or set
pub record IsCode (codes : List CodeValue) (name : List ℕ) (source : Source) : Type 0 where
  pub at : ℕ
  pub value : CodeValue
  pub given : slice_get codes at ≡ Some value
  pub named : row_name value.style.0 ≡ name
  pub is : source ≡ Code value.bound

-- a declaration of this name, by its place, in a rule that matches
pub record IsDeclared (sheets : List SheetAt) (matched : List Candidate) (name : List ℕ) (source : Source)
    : Type 0 where
  pub at : ℕ
  pub candidate : Candidate
  pub matches : slice_get matched at ≡ Some candidate
  pub place : ℕ
  pub declaration : Declaration
  pub stands : slice_get (declarations_of (rule_at sheets candidate)) place ≡ Some declaration
  pub named : declaration.name ≡ name
  pub is : source ≡ Declared at place

-- what speaks for the property of this name
abbrev pub Speaks : List SheetAt → List Candidate → List CodeValue → List ℕ → Source → Type 0
Speaks sheets matched codes name source = IsCode codes name source ⊎ IsDeclared sheets matched name source

-- the greatest of all that speaks: nothing is above it
pub record IsBest (sheets : List SheetAt) (matched : List Candidate) (codes : List CodeValue) (name : List ℕ)
    (best : Source) : Type 0 where
  pub speaks : Speaks sheets matched codes name best
  pub none_above : (other : Source) → Speaks sheets matched codes name other → is_below matched best other ≡ false

-- each rule that matches is named once
abbrev pub NameEachRuleOnce : List Candidate → Type 0
NameEachRuleOnce matched =
    (one other : ℕ) (c d : Candidate) → slice_get matched one ≡ Some c → slice_get matched other ≡ Some d
    → c.sheet ≡ d.sheet → c.rule ≡ d.rule → one ≡ other

-- what a caller is told of the winner
abbrev pub winner_of : Source → Winner
winner_of (Code bound) = winner.Code
winner_of (Declared at place) = winner.Declared at place

-- all that speaks as one list, with the names for which it speaks

pub record Voice : Type 0 where
  pub name : List ℕ
  pub source : Source

abbrev pub voice : List ℕ → Source → Voice
voice name source = record { name = name; source = source }

abbrev pub code_voice : CodeValue → Voice
code_voice v = voice (row_name v.style.0) (Code v.bound)

-- the declarations of a rule from a place on
abbrev pub rule_voices : ℕ → ℕ → List Declaration → List Voice
rule_voices at place [] = []
rule_voices at place (d ∷ ds) = voice d.name (Declared at place) ∷ rule_voices at (place + 1) ds

-- the declarations of the rules of matches from a place on
unfoldable pub declared_voices : List SheetAt → ℕ → List Candidate → List Voice
declared_voices sheets at [] = []
declared_voices sheets at (c ∷ cs) =
    rule_voices at 0 (declarations_of (rule_at sheets c)) ++ declared_voices sheets (at + 1) cs

abbrev pub voices : List SheetAt → List Candidate → List CodeValue → List Voice
voices sheets matched codes = map code_voice codes ++ declared_voices sheets 0 matched

abbrev pub sources_for : List ℕ → List Voice → List Source
sources_for name all = map (λ (v : Voice). v.source) (filter (λ (v : Voice). bytes_eq v.name name) all)

-- the winner of the property of a name, as a function; a law says that it is the best
unfoldable pub best_source : List SheetAt → List Candidate → List CodeValue → List ℕ → Option Source
best_source sheets matched codes name = greatest matched (sources_for name (voices sheets matched codes))
