use Rattle.std.proofs.Common.{◌<◌, length, get_or, arith}
use Rattle.std.proofs.lemmas.List.{take_all}
use Rattle.fx_base.specs.Names.{name_of}
use Rattle.fx_graph_model.proofs.Edges.{links_none}
use Rattle.fx_graph_edges.proofs.RowLemmas.{number_at, numbers_more}
use Rattle.fx_graph_edges.proofs.LinkLemmas.{rooms_used, links_step}
use Rattle.fx_graph_edges.proofs.linking.link.Goals as goal

pub loop-operand-init : goal.loop-operand-init
loop-operand-init c = record { linked = links_none _ _; used = λ name. omega arith }

pub link_one-requires-clause-known : goal.link_one-requires-clause-known
link_one-requires-clause-known c =
    let n = (get_or c.args.operands.now c.loop-operand.operand-index (name_of 0)).0 in
    let h : n < length c.args.users.now = c.requires.known n (number_at c.args.operands.now c.loop-operand.operand-index (name_of 0) c.loop-operand-test.true) in
    omega (arith, h, c.loop-operand.invariant.linked.rows)

pub link_one-requires-clause-room : goal.link_one-requires-clause-room
link_one-requires-clause-room c =
    let n = (get_or c.args.operands.now c.loop-operand.operand-index (name_of 0)).0 in
    let member = number_at c.args.operands.now c.loop-operand.operand-index (name_of 0) c.loop-operand-test.true in
    omega (arith, c.requires.room n member, c.loop-operand.invariant.used n, c.loop-operand-test.true)

pub loop-operand-preserved : goal.loop-operand-preserved
loop-operand-preserved c =
    let n = (get_or c.args.operands.now c.loop-operand.operand-index (name_of 0)).0 in
    let h : n < length c.args.users.now = c.requires.known n (number_at c.args.operands.now c.loop-operand.operand-index (name_of 0) c.loop-operand-test.true) in
    let within : n < length c.loop-operand.users = omega (arith, h, c.loop-operand.invariant.linked.rows) in
    let set = c.link_one.ensures.set in
    record {
      linked = rw (numbers_more c.args.operands.now c.loop-operand.operand-index (name_of 0) c.loop-operand-test.true)
          (links_step c.args.users.now c.loop-operand.users c.link_one.new.users c.args.user n within set _ c.loop-operand.invariant.linked c.link_one.ensures.items);
      used = λ name.
          omega (arith, c.loop-operand.invariant.used name, rooms_used c.args.users.now c.loop-operand.users c.link_one.new.users c.args.user n within set c.link_one.ensures.room name);
    }

pub returns : goal.returns
returns c =
    rw (take_all c.loop-operand.operand-index c.args.operands.now c.loop-operand-test.false) at c.loop-operand.invariant.linked
