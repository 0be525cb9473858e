use Rattle.std.proofs.Common.{◌≡◌, ◌++◌, drop}
use Rattle.std.specs.List.{flat_map}
use Rattle.fx_node_style.specs.Keeping.{declared_names, named_paint}
use Rattle.fx_node_style.proofs.keeping.push_own.Given as goal

abbrev pub invariant-loop-candidate : goal.invariant-loop-candidate
invariant-loop-candidate l =
    let f = named_paint l.rows.sheets.now l.rows.matched.now l.rows.codes.now in
    l.paints.items ++ flat_map f (declared_names l.sheets (drop l.candidate-index l.matched))
    ≡ l.initial.paints.items ++ flat_map f (declared_names l.sheets l.matched)
