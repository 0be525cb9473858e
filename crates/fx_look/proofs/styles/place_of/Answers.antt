use Rattle.std.proofs.Common.{◌<◌, ◌^◌, None, codes, map, rules}
use Rattle.std.specs.Str.{bytes_eq}
use Rattle.fx_look.specs.declared.styles.StyleForm.TheVariants as form
use Rattle.fx_look.specs.Styles.{StyleRow}
use Rattle.fx_look.specs.StyleRows.{style_row}
use Rattle.fx_look.proofs.StyleLemmas.{style_small}
use Rattle.fx_look.proofs.styles.place_of.Goals as goal

pub overflow_cast-result : goal.overflow_cast-result
overflow_cast-result c =
    let any : StyleRow = record { name = codes ""; form = form.Size; property = None } in
    let small : c.in_ok-place.place < 2 ^ 32 = style_small (λ (row : StyleRow). bytes_eq row.name c.args.name.now) (map style_row c.style_table.result.now) c.in_ok-place.place any c.in_ok-place.ensures c.style_table.ensures in
    search rules
