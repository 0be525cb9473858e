use Rattle.std.proofs.Common.{◌≡◌, ◌≤◌, length, arith}
use Rattle.std.proofs.lemmas.List.{length-map}
use Rattle.fx_base.specs.declared.keys.Name.{Name}
use Rattle.fx_base.specs.Names.{numbers}
use Rattle.fx_graph_model.specs.Refusals.{operand_count}
use Rattle.fx_graph_model.specs.Changes.{with_binding}
use Rattle.fx_graph_model.proofs.Binding.{operand_count-uses}
use Rattle.fx_graph.proofs.BindLemmas.{bind_counted, full_same}
use Rattle.fx_graph.proofs.binding.is_full.Goals as goal

pub overflow_sub-others : goal.overflow_sub-others
overflow_sub-others c =
    omega (arith, c.requires.counted, c.operands_at.ensures, operand_count-uses c.args.entries.now c.args.name)

pub returns : goal.returns
returns c = λ expr.
    let es = c.args.entries.now in
    let most : c.operands_at.result ≤ c.args.total = omega (arith, c.requires.counted, c.operands_at.ensures, operand_count-uses es c.args.name) in
    let long : length (numbers c.args.operands.now) ≡ length c.args.operands.now = length-map c.args.operands.now (λ (n : Name). n.0) in
    let count = bind_counted es c.args.name expr (numbers c.args.operands.now) c.requires.known in
    let after = operand_count (with_binding c.args.name expr (numbers c.args.operands.now) es) in
    full_same c.args.total c.operands_at.result (length c.args.operands.now) after most c.requires.few (omega (arith, count, long, c.requires.counted, c.operands_at.ensures))
