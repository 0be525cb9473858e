use Rattle.std.proofs.Common.{ℕ, ◌+◌, List, [], Contains, refl, sym, ap, subst, ◌∙◌}
use Rattle.fx_base.specs.Names.{name_of}
use Rattle.fx_base.specs.declared.work.Work.{Work}
use Rattle.fx_graph_edges.proofs.RowLemmas.{number_at, numbers_more}
use Rattle.fx_graph_model.specs.Eager.{eager}
use Rattle.fx_graph.proofs.LookLemmas.{first_names, looks_entries, looks_more, looks_needed, looks_part, looks_part_needed, looks_reads, looks_some, looks_start, reads_spent_all, reads_stopped}
use Rattle.fx_graph.proofs.looking.settle_each.Goals as goal

pub loop-name-init : goal.loop-name-init
loop-name-init g c = (([], looks_start _ _ c.requires.holds), refl)

pub settle-requires-clause-holds : goal.settle-requires-clause-holds
settle-requires-clause-holds g c = c.loop-name.invariant.0.1.holds

pub settle-requires-clause-known : goal.settle-requires-clause-known
settle-requires-clause-known g c =
    rw (looks_entries _ _ _ _ _ _ c.loop-name.invariant.0.1)
    (c.requires.known _ (number_at c.args.names.now c.loop-name.name-index (name_of 0) c.loop-name-test.true))

pub returns-in_err-settle-clause-part : goal.returns-in_err-settle-clause-part
returns-in_err-settle-clause-part g c =
    looks_part c.args.lists.now c.loop-name.lists c.settle.new.lists _ _ _ _ _ c.loop-name.invariant.0.1
    c.in_err-settle.ensures.part

pub returns-in_err-settle-clause-unread : goal.returns-in_err-settle-clause-unread
returns-in_err-settle-clause-unread g c =
    let i = c.loop-name.name-index in
    let names = c.args.names.now in
    looks_part_needed c.args.lists.now c.loop-name.lists c.settle.new.lists _ _ _ _ _ _ c.loop-name.invariant.0.1
    (λ n h. first_names names (i + 1) n (subst (λ (xs : List ℕ). Contains xs n) (sym (numbers_more names i (name_of 0) c.loop-name-test.true)) h))
    c.in_err-settle.ensures.part

pub returns-in_err-settle-clause-cost : goal.returns-in_err-settle-clause-cost
returns-in_err-settle-clause-cost g c =
    let k = c.loop-name.invariant.0.1 in
    let r = looks_reads _ _ _ _ _ _ k in
    let i = c.loop-name.name-index in
    let names = c.args.names.now in
    reads_stopped _ _ _ _ _ _ _ _ _ _ _ r
    (λ n h. first_names names (i + 1) n (subst (λ (xs : List ℕ). Contains xs n) (sym (numbers_more names i (name_of 0) c.loop-name-test.true)) h))
    (rw (looks_entries _ _ _ _ _ _ k) at c.in_err-settle.ensures.cost)

pub loop-name-preserved : goal.loop-name-preserved
loop-name-preserved g c =
    rw (numbers_more c.args.names.now c.loop-name.name-index (name_of 0) c.loop-name-test.true) (
      (
        _,
        looks_more _ _ _ _ _ c.loop-name.invariant.0.0 (eager c.loop-name.lists.entries.items _) _ _ _
            c.loop-name.invariant.0.1 c.in_ok-settle.ensures.holds c.in_ok-settle.ensures.ok refl
            c.in_ok-settle.ensures.steps,
      ),
      c.in_ok-settle.ensures.others ∙ ap (λ (w : Work g.row.L.Denot). record w { evaluated = c.settle.new.work.evaluated }) c.loop-name.invariant.1,
    )

pub returns-clause-holds : goal.returns-clause-holds
returns-clause-holds g c = c.loop-name.invariant.0.1.holds

pub returns-clause-part : goal.returns-clause-part
returns-clause-part g c = looks_some _ _ _ _ _ _ c.loop-name.invariant.0.1

pub returns-clause-unread : goal.returns-clause-unread
returns-clause-unread g c =
    looks_needed _ _ _ _ _ _ _ c.loop-name.invariant.0.1 (first_names c.args.names.now c.loop-name.name-index)

pub returns-clause-cost : goal.returns-clause-cost
returns-clause-cost g c =
    reads_spent_all _ _ _ _ _ _ _ _ _ (looks_reads _ _ _ _ _ _ c.loop-name.invariant.0.1)
    (first_names c.args.names.now c.loop-name.name-index)
