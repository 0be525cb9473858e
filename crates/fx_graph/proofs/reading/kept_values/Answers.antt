use Rattle.std.proofs.Common.{◌<◌, length, get_or, ◌∙◌}
use Rattle.std.proofs.lemmas.List.{get_or_read}
use Rattle.fx_expr.specs.Meaning.{no_value}
use Rattle.fx_base.specs.Names.{name_of}
use Rattle.fx_graph_edges.proofs.RowLemmas.{number_at}
use Rattle.fx_graph.proofs.ReadLemmas.{kept_more}
use Rattle.fx_graph.proofs.reading.kept_values.Goals as goal

pub bounds-cache-operand : goal.bounds-cache-operand
bounds-cache-operand c = c.requires _ (number_at c.args.operands.now c.loop-operand.operand-index (name_of 0) c.loop-operand-test.true)

pub loop-operand-preserved : goal.loop-operand-preserved
loop-operand-preserved c =
    let n = (get_or c.args.operands.now c.loop-operand.operand-index (name_of 0)).0 in
    let h : n < length c.args.cache.now = c.requires n (number_at c.args.operands.now c.loop-operand.operand-index (name_of 0) c.loop-operand-test.true) in
    kept_more c.args.cache.now c.args.operands.now c.loop-operand.operand-index c.loop-operand-test.true _ c.in_ok-copy.field-0 c.loop-operand.invariant
    (c.in_ok-copy.ensures.value ∙ get_or_read c.args.cache.now n c.index-cache-operand.result h c.index-cache-operand.is no_value) _ c.in_ok-push.ensures.items
