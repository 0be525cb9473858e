use Rattle.std.specs.Str.{bytes_eq}
use Rattle.fx_kinds.specs.Properties.{ListedProperty}
use Rattle.fx_stage_parts.proofs.Small.{small_place}
use Rattle.fx_stage_parts.proofs.finding.place_of.Goals as goal

pub returns-clause-small : goal.returns-clause-small
returns-clause-small c =
    small_place c.args.class (λ (p : ListedProperty). bytes_eq p.name c.as_str.result.now) c.property_named.result c.property_named.ensures
