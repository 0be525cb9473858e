-- the parts of the compounds so far
use Rattle.std.proofs.Common.{◌≡◌, take}
use Rattle.fx_css_types.specs.Specificity.{class_count, id_count, type_count}
use Rattle.fx_select.proofs.weights.specificity.Given as goal

abbrev pub invariant-loop-compound : goal.invariant-loop-compound
invariant-loop-compound l = record {
  ids : l.ids ≡ id_count (take l.compound-index l.compounds);
  classes : l.classes ≡ class_count (take l.compound-index l.compounds);
  types : l.types ≡ type_count (take l.compound-index l.compounds);
}
