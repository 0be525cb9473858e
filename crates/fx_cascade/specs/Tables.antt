-- The winners of a node: those of the rows of the style table by row, others by name.
use Rattle.std.specs.Prelude.{ℕ, ◌≡◌, ◌<◌, Bool, true, false, All, slice_set, List, [], ◌∷◌, Option, Some, None, slice_index_or, if◌then◌else◌}
use Rattle.std.specs.Str.{bytes_eq}
use Rattle.fx_look.specs.StyleRows.{style_named}
use Rattle.fx_look.specs.declared.styles.CodeValue.{CodeValue}
use Rattle.fx_look.specs.declared.styles.TheConstants.{STYLE_COUNT}
use Rattle.fx_css_types.specs.declared.sheets.Candidate.{Candidate}
use Rattle.fx_cascade.specs.declared.others.NamedSource.{NamedSource}
use Rattle.fx_cascade.specs.declared.sources.Source.{Source}
use Rattle.fx_cascade.specs.declared.sources.Source.TheVariants as source
use Rattle.fx_cascade.specs.Ranks.{greater_of}

abbrev pub under : List NamedSource → List ℕ → Option Source
under [] name = None
under (o ∷ os) name = if bytes_eq o.name name then Some o.source else under os name

abbrev pub row_source : List (Option Source) → ℕ → Option Source
row_source rows row = slice_index_or rows row None

abbrev pub source_at : List (Option Source) → List NamedSource → List ℕ → Option ℕ → Option Source
source_at rows others name (Some row) = row_source rows row
source_at rows others name None = under others name

-- what wins a row of which something was heard
abbrev pub slot : Bool → Source → Option Source
slot false source = None
slot true source = Some source

-- row by row
abbrev pub slots : List Bool → List Source → List (Option Source)
slots [] sources = []
slots (heard ∷ marks) [] = slot heard (source.Code false) ∷ slots marks []
slots (heard ∷ marks) (source ∷ sources) = slot heard source ∷ slots marks sources

pub record Table : Type 0 where
  pub rows : List (Option Source)
  pub others : List NamedSource

-- what wins for a name
unfoldable pub source_of : Table → List ℕ → Option Source
source_of table name = source_at table.rows table.others name (style_named name)

-- code values of rows that the style table has
abbrev pub AreRows : List CodeValue → Type 0
AreRows codes = All (λ (v : CodeValue). v.style.0 < STYLE_COUNT) codes

abbrev pub with_greater : List Candidate → NamedSource → Source → NamedSource
with_greater matched o said = record { name = o.name; source = greater_of matched o.source said }

-- one of them is made the greater of two
abbrev pub IsRaised : List Candidate → List NamedSource → List NamedSource → ℕ → Source → Type 0
IsRaised matched old new place said =
    (d : NamedSource) → new ≡ slice_set old place (with_greater matched (slice_index_or old place d) said)
