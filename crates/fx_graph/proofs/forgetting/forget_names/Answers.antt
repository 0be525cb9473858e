use Rattle.std.proofs.Common.{◌≡◌, drop, length, ap, arith}
use Rattle.std.proofs.lemmas.List.{drop_all}
use Rattle.fx_base.specs.Names.{numbers, name_of}
use Rattle.fx_graph_model.specs.Changes.{forget_all, clear_all}
use Rattle.fx_graph_edges.proofs.RowLemmas.{number_at}
use Rattle.fx_graph.specs.declared.lists.Lists.{Lists}
use Rattle.fx_graph.specs.Forgotten.{reset}
use Rattle.fx_graph.proofs.ForgetLemmas.{known_names, length-forgotten, store_forgotten}
use Rattle.fx_graph.proofs.forgetting.forget_names.Goals as goal

pub forget_one-requires-clause-known : goal.forget_one-requires-clause-known
forget_one-requires-clause-known c =
    let names = c.args.names.now in
    let i = c.loop-name.name-index in
    let es = c.args.lists.now.entries.items in
    let known = known_names es names c.requires.known _ (number_at names i (name_of 0) c.loop-name-test.true) in
    let size : length c.loop-name.lists.entries.items ≡ length es = length-forgotten (numbers names) (numbers (drop i names)) es c.loop-name.lists.entries.items c.loop-name.invariant.2 in
    omega (arith, known, size)

pub returns-clause-holds : goal.returns-clause-holds
returns-clause-holds c =
    let l = c.args.lists.now in
    let n = c.loop-name.lists in
    let names = c.args.names.now in
    let k = c.loop-name.invariant.0 in
    let frame = c.loop-name.invariant.1 in
    let none = drop_all c.loop-name.name-index names c.loop-name-test.false in
    let entries : n.entries.items ≡ forget_all (numbers names) l.entries.items = rw none at c.loop-name.invariant.2 in
    let unread : n.unread.items ≡ clear_all (numbers names) l.unread.items = rw none at c.loop-name.invariant.3 in
    let cache : n.cache.items ≡ reset (numbers names) l.cache.items = rw none at c.loop-name.invariant.4 in
    let spare = ap (λ (x : Lists). x.spare) frame in
    let newly = ap (λ (x : Lists). x.newly) frame in
    let count = ap (λ (x : Lists). x.newly_count) frame in
    let work = ap (λ (x : Lists). x.work) frame in
    rw (entries, unread, cache, spare, newly, count, work)
    (store_forgotten l.entries.items l.users.items l.unread.items l.spare.items l.newly.items l.newly_count l.cache.items l.work.items l.operand_count
    (numbers names) n.users.items n.operand_count c.requires.holds c.requires.free (rw entries at k.mirrors) (rw entries at k.counted) c.loop-name.invariant.5)
