-- finding in the list of properties, and then seeing the property
use Rattle.std.proofs.Common.{◌∙◌, sym, ap}
use Rattle.std.specs.List.{find}
use Rattle.std.specs.Option.{option_map}
use Rattle.std.specs.Str.{bytes_eq}
use Rattle.fx_kinds.specs.Listing.{listed_property}
use Rattle.fx_kinds.specs.Properties.{ListedProperty}
use Rattle.fx_scene_values.proofs.FindLemmas.{find-map, option_map-now}
use Rattle.fx_scene_values.proofs.PlaceLemmas.{one_named}
use Rattle.fx_scene_values.proofs.properties.listed.Goals as goal

pub returns-in-None : goal.returns-in-None
returns-in-None c =
    option_map-now listed_property c.first_named.result
    ∙ (ap (option_map listed_property) c.first_named.ensures
    ∙ (sym (find-map (λ (p : ListedProperty). bytes_eq p.name c.args.name.now) listed_property c.properties-list.result.now)
    ∙ ap (find (λ (p : ListedProperty). bytes_eq p.name c.args.name.now)) c.properties-list.ensures))

pub returns-in-Some : goal.returns-in-Some
returns-in-Some c =
    one_named c.args.class c.properties-list.result.now _ c.args.name.now c.in-Some.property.now
    c.properties-list.ensures c.in-Some.ensures
