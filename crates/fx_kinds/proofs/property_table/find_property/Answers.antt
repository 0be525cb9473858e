use Rattle.std.proofs.Common.{◌∙◌}
use Rattle.std.specs.Str.{bytes_eq}
use Rattle.fx_kinds.specs.Listing.{listed_property}
use Rattle.fx_kinds.specs.Properties.{ListedProperty}
use Rattle.fx_look.proofs.TableLemmas.{position-map}
use Rattle.fx_kinds.proofs.property_table.find_property.Goals as goal

pub returns : goal.returns
returns c = c.find_row.ensures ∙ position-map listed_property (λ (p : ListedProperty). bytes_eq p.name c.args.name.now) c.args.list.now
