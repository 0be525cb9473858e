-- The value that wins a row of the style table.
use Rattle.std.specs.Prelude.{◌≡◌, ℕ, ◌==◌, List, slice_get, find, Option, option_and_then}
use Rattle.std.specs.Option.{option_map}
use Rattle.fx_look.specs.declared.styles.CodeValue.{CodeValue}
use Rattle.fx_css_types.specs.declared.declarations.Declaration.{Declaration}
use Rattle.fx_css_types.specs.declared.declarations.FoundValue.{FoundValue}
use Rattle.fx_css_types.specs.declared.declarations.FoundValue.TheVariants as found
use Rattle.fx_css_types.specs.declared.sheets.SheetAt.{SheetAt}
use Rattle.fx_css_types.specs.declared.sheets.Candidate.{Candidate}
use Rattle.fx_cascade.specs.declared.sources.Source.{Source}
use Rattle.fx_cascade.specs.declared.sources.Source.TheVariants as source
use Rattle.fx_cascade.specs.Sources.{best_source, declarations_of, row_name, rule_at}
use Rattle.fx_cascade.specs.Tables.{Table, source_of}
use Rattle.fx_node_style.specs.declared.values.Winning.{Winning}
use Rattle.fx_node_style.specs.declared.values.Winning.TheVariants as winning

-- what stands behind the references
abbrev pub found_value : Winning → FoundValue
found_value (winning.Code v) = found.Code v.now
found_value (winning.Declared d) = found.Declared d.now

abbrev pub code_value : List CodeValue → ℕ → Option FoundValue
code_value codes row =
    option_map (λ (c : CodeValue). found.Code c.value) (find (λ (c : CodeValue). c.style.0 == row) codes)

abbrev pub declared_value : List SheetAt → List Candidate → ℕ → ℕ → Option FoundValue
declared_value sheets matched at place =
    option_map (λ (d : Declaration). found.Declared d.value)
    (option_and_then (λ (c : Candidate). slice_get (declarations_of (rule_at sheets c)) place) (slice_get matched at))

abbrev pub value_of : List SheetAt → List Candidate → List CodeValue → ℕ → Source → Option FoundValue
value_of sheets matched codes row (source.Code bound) = code_value codes row
value_of sheets matched codes row (source.Declared at place) = declared_value sheets matched at place

-- the value that wins a row, if any does
unfoldable pub row_value : List SheetAt → List Candidate → List CodeValue → ℕ → Option FoundValue
row_value sheets matched codes row =
    option_and_then (value_of sheets matched codes row) (best_source sheets matched codes (row_name row))

-- the table has what wins for each name
abbrev pub WinsBy : Table → List SheetAt → List Candidate → List CodeValue → Type 0
WinsBy table sheets matched codes = (name : List ℕ) → source_of table name ≡ best_source sheets matched codes name
