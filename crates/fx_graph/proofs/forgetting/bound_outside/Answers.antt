use Rattle.std.proofs.Common.{ℕ, List, get_or, Contains, sym, subst}
use Rattle.std.proofs.lemmas.List.{take_all}
use Rattle.fx_base.specs.Names.{numbers, name_of}
use Rattle.fx_graph_edges.proofs.RowLemmas.{row_read, number_at}
use Rattle.fx_graph.proofs.ForgetLemmas.{inside_more}
use Rattle.fx_graph.proofs.forgetting.bound_outside.Goals as goal

pub bounds-users-name : goal.bounds-users-name
bounds-users-name c = c.requires.known _ (number_at c.args.names.now c.loop-name.name-index (name_of 0) c.loop-name-test.true)

pub returns-in-Some : goal.returns-in-Some
returns-in-Some c =
    let n = (get_or c.args.names.now c.loop-name.name-index (name_of 0)).0 in
    let member = number_at c.args.names.now c.loop-name.name-index (name_of 0) c.loop-name-test.true in
    let row = row_read c.args.users.now n c.index-users-name.result (c.requires.known n member) c.index-users-name.is c.as_slice.result.now c.as_slice.ensures in
    let some = c.in-Some.ensures (numbers c.args.names.now) c.requires.flagged in
    (some.1, (n, member, subst (λ (xs : List ℕ). Contains xs c.in-Some.user) row some.0))

pub loop-name-preserved : goal.loop-name-preserved
loop-name-preserved c =
    let n = (get_or c.args.names.now c.loop-name.name-index (name_of 0)).0 in
    let member = number_at c.args.names.now c.loop-name.name-index (name_of 0) c.loop-name-test.true in
    let row = row_read c.args.users.now n c.index-users-name.result (c.requires.known n member) c.index-users-name.is c.as_slice.result.now c.as_slice.ensures in
    inside_more c.args.names.now c.args.users.now (numbers c.args.names.now) c.loop-name.name-index (name_of 0) c.loop-name-test.true c.loop-name.invariant
    (λ user used. c.in_default.ensures (numbers c.args.names.now) c.requires.flagged user (subst (λ (xs : List ℕ). Contains xs user) (sym row) used))

pub returns : goal.returns
returns c = rw (take_all c.loop-name.name-index c.args.names.now c.loop-name-test.false) at c.loop-name.invariant
