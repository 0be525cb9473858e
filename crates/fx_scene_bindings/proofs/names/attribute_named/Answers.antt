-- finding in the list of attributes, and then seeing the attribute
use Rattle.std.proofs.Common.{◌∙◌, sym, ap}
use Rattle.std.specs.Option.{option_map}
use Rattle.fx_doc.specs.Views.{attr_view}
use Rattle.fx_scene_bindings.specs.Names.{has_name}
use Rattle.fx_scene_values.proofs.FindLemmas.{find-map, option_map-now}
use Rattle.fx_scene_bindings.proofs.names.attribute_named.Goals as goal

pub returns : goal.returns
returns c =
    option_map-now attr_view c.first.result
    ∙ (ap (option_map attr_view) c.first.ensures
    ∙ sym (find-map (has_name c.args.name.now) attr_view c.args.attributes.now))
