use Rattle.std.proofs.Common.{◌<◌, length, get_or, ◌∙◌, arith}
use Rattle.std.proofs.lemmas.List.{take_all}
use Rattle.fx_base.specs.Names.{name_of}
use Rattle.fx_graph_model.proofs.Edges.{roomier_none}
use Rattle.fx_graph_edges.proofs.RowLemmas.{number_at, numbers_more}
use Rattle.fx_graph_edges.proofs.LinkLemmas.{same_length, users_same, roomier_step}
use Rattle.fx_graph_edges.proofs.linking.reserve_links.Goals as goal

pub loop-operand-init : goal.loop-operand-init
loop-operand-init c = roomier_none _ _

pub reserve_row-requires : goal.reserve_row-requires
reserve_row-requires c =
    let n = (get_or c.args.operands.now c.loop-operand.operand-index (name_of 0)).0 in
    let h : n < length c.args.users.now = c.requires n (number_at c.args.operands.now c.loop-operand.operand-index (name_of 0) c.loop-operand-test.true) in
    omega (arith, h, c.loop-operand.invariant.rows)

pub returns-in_err-reserve_row-clause-rows : goal.returns-in_err-reserve_row-clause-rows
returns-in_err-reserve_row-clause-rows c =
    let n = (get_or c.args.operands.now c.loop-operand.operand-index (name_of 0)).0 in
    let h : n < length c.args.users.now = c.requires n (number_at c.args.operands.now c.loop-operand.operand-index (name_of 0) c.loop-operand-test.true) in
    let within : n < length c.loop-operand.users = omega (arith, h, c.loop-operand.invariant.rows) in
    same_length c.args.users.now c.loop-operand.users c.reserve_row.new.users 0 n within c.reserve_row.ensures.set ∙ c.loop-operand.invariant.rows

pub returns-in_err-reserve_row-clause-same : goal.returns-in_err-reserve_row-clause-same
returns-in_err-reserve_row-clause-same c = λ name.
    let n = (get_or c.args.operands.now c.loop-operand.operand-index (name_of 0)).0 in
    let h : n < length c.args.users.now = c.requires n (number_at c.args.operands.now c.loop-operand.operand-index (name_of 0) c.loop-operand-test.true) in
    let within : n < length c.loop-operand.users = omega (arith, h, c.loop-operand.invariant.rows) in
    users_same c.args.users.now c.loop-operand.users c.reserve_row.new.users 0 n within c.reserve_row.ensures.set c.reserve_row.ensures.items name
    ∙ c.loop-operand.invariant.same name

pub loop-operand-preserved : goal.loop-operand-preserved
loop-operand-preserved c =
    let n = (get_or c.args.operands.now c.loop-operand.operand-index (name_of 0)).0 in
    let h : n < length c.args.users.now = c.requires n (number_at c.args.operands.now c.loop-operand.operand-index (name_of 0) c.loop-operand-test.true) in
    let within : n < length c.loop-operand.users = omega (arith, h, c.loop-operand.invariant.rows) in
    rw (numbers_more c.args.operands.now c.loop-operand.operand-index (name_of 0) c.loop-operand-test.true)
    (roomier_step c.args.users.now c.loop-operand.users c.reserve_row.new.users 0 n within c.reserve_row.ensures.set _ _ c.loop-operand.invariant
    c.reserve_row.ensures.items c.in_ok-reserve_row.ensures.room)

pub returns-clause-ok : goal.returns-clause-ok
returns-clause-ok c =
    rw (take_all c.loop-operand.operand-index c.args.operands.now c.loop-operand-test.false) at c.loop-operand.invariant
