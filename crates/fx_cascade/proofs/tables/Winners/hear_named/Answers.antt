use Rattle.std.proofs.Common.{◌≡◌, ℕ, List, Option, Some, None, sym, ◌∙◌}
use Rattle.std.specs.Option.{option_map}
use Rattle.fx_look.specs.StyleRows.{style_named}
use Rattle.fx_look.specs.declared.styles.StyleName.{StyleName}
use Rattle.fx_cascade.proofs.NameLemmas.{row_small, row_place}
use Rattle.fx_cascade.proofs.tables.Winners.hear_named.Goals as goal

pub hear_row-requires : goal.hear_row-requires
hear_row-requires c =
    row_small c.args.declaration.now.name c.in-Some.row.0
    (row_place c.args.declaration.now.name c.in-Some.row (sym c.requires ∙ c.in-Some.is))
