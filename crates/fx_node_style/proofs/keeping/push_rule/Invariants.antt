use Rattle.std.proofs.Common.{◌≡◌, ◌++◌, drop}
use Rattle.std.specs.List.{flat_map}
use Rattle.fx_node_style.specs.Keeping.{named_paint, names_of}
use Rattle.fx_node_style.proofs.keeping.push_rule.Given as goal

abbrev pub invariant-loop-declaration : goal.invariant-loop-declaration
invariant-loop-declaration l =
    let f = named_paint l.rows.sheets.now l.rows.matched.now l.rows.codes.now in
    l.paints.items ++ flat_map f (names_of (drop l.declaration-index l.declarations))
    ≡ l.initial.paints.items ++ flat_map f (names_of l.declarations)
