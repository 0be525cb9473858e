-- the parts of the compounds so far are counted
use Rattle.std.proofs.Common.{◌+◌, ◌≤◌, take}
use Rattle.fx_css_types.specs.Specificity.{class_count, id_count, type_count}
use Rattle.fx_select_tests.proofs.selectors.is_short.Given as goal

abbrev pub invariant-loop-compound : goal.invariant-loop-compound
invariant-loop-compound l = record {
  counted : id_count (take l.compound-index l.compound-items) + class_count (take l.compound-index l.compound-items)
      + type_count (take l.compound-index l.compound-items) ≤ l.count;
  few : l.count ≤ 5000;
}
