use Rattle.std.proofs.Common.{◌<◌, length, get_or, arith}
use Rattle.std.proofs.lemmas.List.{take_all}
use Rattle.fx_base.specs.Names.{name_of}
use Rattle.fx_graph_model.proofs.Edges.{unlinks_none}
use Rattle.fx_graph_edges.proofs.RowLemmas.{number_at, numbers_more}
use Rattle.fx_graph_edges.proofs.LinkLemmas.{rooms_grow, unlinks_step}
use Rattle.fx_graph_edges.proofs.linking.unlink.Goals as goal

pub loop-operand-init : goal.loop-operand-init
loop-operand-init c = record { unlinked = unlinks_none _ _; grown = λ name. omega arith }

pub unlink_one-requires : goal.unlink_one-requires
unlink_one-requires c =
    let n = (get_or c.args.operands.now c.loop-operand.operand-index (name_of 0)).0 in
    let h : n < length c.args.users.now = c.requires n (number_at c.args.operands.now c.loop-operand.operand-index (name_of 0) c.loop-operand-test.true) in
    omega (arith, h, c.loop-operand.invariant.unlinked.rows)

pub loop-operand-preserved : goal.loop-operand-preserved
loop-operand-preserved c =
    let n = (get_or c.args.operands.now c.loop-operand.operand-index (name_of 0)).0 in
    let h : n < length c.args.users.now = c.requires n (number_at c.args.operands.now c.loop-operand.operand-index (name_of 0) c.loop-operand-test.true) in
    let within : n < length c.loop-operand.users = omega (arith, h, c.loop-operand.invariant.unlinked.rows) in
    let set = c.unlink_one.ensures.set in
    record {
      unlinked = rw (numbers_more c.args.operands.now c.loop-operand.operand-index (name_of 0) c.loop-operand-test.true)
          (unlinks_step c.args.users.now c.loop-operand.users c.unlink_one.new.users c.args.user n within set _ c.loop-operand.invariant.unlinked c.unlink_one.ensures.items);
      grown = λ name.
          omega (arith, c.loop-operand.invariant.grown name, rooms_grow c.args.users.now c.loop-operand.users c.unlink_one.new.users c.args.user n within set c.unlink_one.ensures.room name);
    }

pub returns-clause-unlinked : goal.returns-clause-unlinked
returns-clause-unlinked c =
    rw (take_all c.loop-operand.operand-index c.args.operands.now c.loop-operand-test.false) at c.loop-operand.invariant.unlinked
