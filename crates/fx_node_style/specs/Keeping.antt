-- The paints that look-ups find on a node.
use Rattle.std.specs.Prelude.{ℕ, List, [], ◌∷◌, ◌++◌, codes, map, Option, Some, None}
use Rattle.std.specs.List.{flat_map}
use Rattle.fx_base.specs.declared.values.Value.TheVariants as value
use Rattle.fx_look.specs.StyleRows.{style_named}
use Rattle.fx_look.specs.declared.styles.CodeValue.{CodeValue}
use Rattle.fx_css_types.specs.declared.declarations.Paint.{Paint}
use Rattle.fx_css_types.specs.declared.declarations.Paint.TheVariants as paint
use Rattle.fx_css_types.specs.declared.declarations.Declaration.{Declaration}
use Rattle.fx_css_types.specs.declared.declarations.Declared.TheVariants as declared
use Rattle.fx_css_types.specs.declared.declarations.FoundValue.{FoundValue}
use Rattle.fx_css_types.specs.declared.declarations.FoundValue.TheVariants as found
use Rattle.fx_css_types.specs.declared.sheets.SheetAt.{SheetAt}
use Rattle.fx_css_types.specs.declared.sheets.Candidate.{Candidate}
use Rattle.fx_cascade.specs.declared.sources.Source.{Source}
use Rattle.fx_cascade.specs.declared.sources.Source.TheVariants as source
use Rattle.fx_cascade.specs.Sources.{best_source, declarations_of, rule_at}
use Rattle.fx_lookup.specs.declared.named.NamedPaint.{NamedPaint}
use Rattle.fx_node_style.specs.Values.{declared_value, row_value}
use Rattle.fx_node_style.specs.Rows.{text_fill_row}

-- one paint, where one wins; a colour that code gives is one
abbrev pub paint_of : FoundValue → Option Paint
paint_of (found.Code (value.Color c)) = Some (paint.Color c)
paint_of (found.Declared (declared.Paint p)) = Some p
paint_of _ = None

abbrev pub paint_of_value : Option FoundValue → Option Paint
paint_of_value None = None
paint_of_value (Some v) = paint_of v

-- the paint that wins a name that is no row, to which code gives nothing
abbrev pub won_paint : List SheetAt → List Candidate → Option Source → Option Paint
won_paint sheets matched None = None
won_paint sheets matched (Some (source.Code bound)) = None
won_paint sheets matched (Some (source.Declared at place)) = paint_of_value (declared_value sheets matched at place)

-- what is kept for a name, by the row that has it: nothing for a row
abbrev pub paint_at : List SheetAt → List Candidate → List CodeValue → List ℕ → Option ℕ → List NamedPaint
paint_at sheets matched given name (Some row) = []
paint_at sheets matched given name None = record {
  name = name;
  paint = won_paint sheets matched (best_source sheets matched given name);
} ∷ []

abbrev pub named_paint : List SheetAt → List Candidate → List CodeValue → List ℕ → List NamedPaint
named_paint sheets matched given name = paint_at sheets matched given name (style_named name)

-- the names that the rules that match declare, in their order
abbrev pub names_of : List Declaration → List (List ℕ)
names_of declarations = map (λ (d : Declaration). d.name) declarations

unfoldable pub declared_names : List SheetAt → List Candidate → List (List ℕ)
declared_names sheets matched = flat_map (λ (c : Candidate). names_of (declarations_of (rule_at sheets c))) matched

-- for each declaration of a name that is no row, in their order, the name with the paint that wins it
unfoldable pub own_paints : List SheetAt → List Candidate → List CodeValue → List NamedPaint
own_paints sheets matched given = flat_map (named_paint sheets matched given) (declared_names sheets matched)

-- what is kept under the name of the one row that has one paint, where something wins it
abbrev pub fill_paint : Option FoundValue → List NamedPaint
fill_paint None = []
fill_paint (Some v) = record { name = codes "-fx-text-fill"; paint = paint_of v } ∷ []

-- what look-ups find on a node
abbrev pub paints_of : List SheetAt → List Candidate → List CodeValue → List NamedPaint
paints_of sheets matched given =
    fill_paint (row_value sheets matched given text_fill_row) ++ own_paints sheets matched given
