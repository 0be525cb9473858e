use Rattle.fx_node_style.specs.Keeping.{named_paint}
use Rattle.fx_node_style.proofs.KeepingLemmas.{one_pushed}
use Rattle.fx_node_style.proofs.keeping.push_rule.Goals as goal

pub loop-declaration-preserved : goal.loop-declaration-preserved
loop-declaration-preserved c =
    one_pushed
    (named_paint c.args.rows.sheets.now c.args.rows.matched.now c.args.rows.codes.now) c.args.declarations.now
    c.loop-declaration.declaration-index c.declaration-item.result c.loop-declaration.paints.items
    c.push_paint.new.paints.items _ c.loop-declaration-test.true c.declaration-item.is c.in_ok-push_paint.ensures
    c.loop-declaration.invariant
