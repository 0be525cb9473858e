use Rattle.std.proofs.lemmas.Result.{err_from_is_err_and}
use Rattle.fx_base.specs.Names.{numbers}
use Rattle.fx_store.proofs.MarkLemmas.{finish_done, finish_kept, finish_short}
use Rattle.fx_store.proofs.marking.finish.Goals as goal

pub returns-in_err-notices-clause-told : goal.returns-in_err-notices-clause-told
returns-in_err-notices-clause-told g c =
    let p = err_from_is_err_and c.from_residual.result c.from_residual.ensures.1 in
    rw (p.1, p.2)
    (λ change before pairs began under.
    finish_short change before c.args.graph.now c.tell.new.graph pairs c.args.listeners.now c.args.owners.now
    (numbers c.args.watch.now.names.items) c.args.watch.now.heard.items c.args.watch.now.before.items began
    c.args.work.now.evaluated c.tell.new.work.evaluated c.tell.ensures.part c.tell.ensures.cost under)

pub returns-clause-kept : goal.returns-clause-kept
returns-clause-kept g c =
    λ pairs kept enough.
    finish_kept c.args.graph.now c.tell.new.graph pairs c.args.listeners.now c.args.owners.now
    (numbers c.args.watch.now.names.items) c.in_ok-notices.ensures.ok c.laws.ensures.closed kept enough

pub returns-clause-told : goal.returns-clause-told
returns-clause-told g c =
    λ change before pairs began under.
    finish_done change before c.args.graph.now c.tell.new.graph pairs c.args.listeners.now c.args.owners.now
    (numbers c.args.watch.now.names.items) c.args.watch.now.heard.items c.args.watch.now.before.items c.in_ok-notices.notices began
    c.args.work.now.evaluated c.tell.new.work.evaluated c.in_ok-notices.ensures.ok c.laws.ensures.closed c.in_ok-notices.ensures.added
    c.in_ok-notices.ensures.invalid c.in_ok-notices.ensures.changed c.tell.ensures.cost under
