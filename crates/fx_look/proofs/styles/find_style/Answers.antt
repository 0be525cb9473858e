use Rattle.std.proofs.Common.{◌∙◌}
use Rattle.std.specs.Str.{bytes_eq}
use Rattle.fx_look.specs.Styles.{StyleRow}
use Rattle.fx_look.specs.StyleRows.{style_row}
use Rattle.fx_look.proofs.TableLemmas.{position-map}
use Rattle.fx_look.proofs.styles.find_style.Goals as goal

pub returns : goal.returns
returns c = c.find_row.ensures ∙ position-map style_row (λ (row : StyleRow). bytes_eq row.name c.args.name.now) c.args.table.now
