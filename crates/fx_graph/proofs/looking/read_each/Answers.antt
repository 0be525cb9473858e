use Rattle.std.proofs.Common.{◌≡◌, ◌+◌, ℕ, Bool, List, Contains, refl, sym, ap, subst, ◌∙◌}
use Rattle.fx_base.specs.Names.{name_of}
use Rattle.fx_base.specs.declared.work.Work.{Work}
use Rattle.fx_graph_edges.proofs.RowLemmas.{number_at, numbers_more}
use Rattle.fx_graph.specs.Store.{shown}
use Rattle.fx_graph.proofs.LookLemmas.{first_names, looks_entries, looks_more, looks_needed, looks_part, looks_part_needed, looks_reads, looks_some, looks_start, reads_spent_all, reads_stopped, reads_unchanged}
use Rattle.fx_graph.proofs.looking.read_each.Goals as goal

pub loop-name-init : goal.loop-name-init
loop-name-init g c = rw c.in_ok-values.ensures.items (looks_start _ _ c.requires.holds, refl)

pub value_of-requires-clause-holds : goal.value_of-requires-clause-holds
value_of-requires-clause-holds g c = c.loop-name.invariant.0.holds

pub value_of-requires-clause-known : goal.value_of-requires-clause-known
value_of-requires-clause-known g c =
    rw (looks_entries _ _ _ _ _ _ c.loop-name.invariant.0)
    (c.requires.known _ (number_at c.args.names.now c.loop-name.name-index (name_of 0) c.loop-name-test.true))

pub returns-in_err-value-clause-part : goal.returns-in_err-value-clause-part
returns-in_err-value-clause-part g c = looks_part c.args.lists.now c.loop-name.lists c.value_of.new.lists _ _ _ _ _ c.loop-name.invariant.0 c.value_of.ensures.part

pub returns-in_err-value-clause-unread : goal.returns-in_err-value-clause-unread
returns-in_err-value-clause-unread g c =
    let i = c.loop-name.name-index in
    let names = c.args.names.now in
    looks_part_needed c.args.lists.now c.loop-name.lists c.value_of.new.lists _ _ _ _ _ _ c.loop-name.invariant.0
    (λ n h. first_names names (i + 1) n (subst (λ (xs : List ℕ). Contains xs n) (sym (numbers_more names i (name_of 0) c.loop-name-test.true)) h))
    c.value_of.ensures.part

pub returns-in_err-value-clause-again : goal.returns-in_err-value-clause-again
returns-in_err-value-clause-again g c = λ off.
    let k = c.loop-name.invariant.0 in
    let r = looks_reads _ _ _ _ _ _ k in
    let i = c.loop-name.name-index in
    let names = c.args.names.now in
    let flags : c.loop-name.lists.unread.items ≡ c.args.lists.now.unread.items =
    reads_unchanged _ _ _ _ _ _ _ _ _ r c.requires.holds.settled.closed (first_names names i) off in
    let state : shown c.loop-name.lists ≡ shown c.args.lists.now =
    k.state ∙ ap (λ (f : List Bool). record (shown c.args.lists.now) { unread = f }) (sym r.flags ∙ flags) in
    c.value_of.ensures.again (rw flags (off _ (number_at names i (name_of 0) c.loop-name-test.true))) ∙ state

pub returns-in_err-value-clause-cost : goal.returns-in_err-value-clause-cost
returns-in_err-value-clause-cost g c =
    let k = c.loop-name.invariant.0 in
    let r = looks_reads _ _ _ _ _ _ k in
    let i = c.loop-name.name-index in
    let names = c.args.names.now in
    reads_stopped _ _ _ _ _ _ _ _ _ _ _ r
    (λ n h. first_names names (i + 1) n (subst (λ (xs : List ℕ). Contains xs n) (sym (numbers_more names i (name_of 0) c.loop-name-test.true)) h))
    (rw (looks_entries _ _ _ _ _ _ k) at c.value_of.ensures.cost)

pub returns-in_err-push-clause-part : goal.returns-in_err-push-clause-part
returns-in_err-push-clause-part g c = looks_part c.args.lists.now c.loop-name.lists c.value_of.new.lists _ _ _ _ _ c.loop-name.invariant.0 c.value_of.ensures.part

pub returns-in_err-push-clause-unread : goal.returns-in_err-push-clause-unread
returns-in_err-push-clause-unread g c =
    let i = c.loop-name.name-index in
    let names = c.args.names.now in
    looks_part_needed c.args.lists.now c.loop-name.lists c.value_of.new.lists _ _ _ _ _ _ c.loop-name.invariant.0
    (λ n h. first_names names (i + 1) n (subst (λ (xs : List ℕ). Contains xs n) (sym (numbers_more names i (name_of 0) c.loop-name-test.true)) h))
    c.value_of.ensures.part

pub returns-in_err-push-clause-again : goal.returns-in_err-push-clause-again
returns-in_err-push-clause-again g c = λ off.
    let k = c.loop-name.invariant.0 in
    let r = looks_reads _ _ _ _ _ _ k in
    let i = c.loop-name.name-index in
    let names = c.args.names.now in
    let flags : c.loop-name.lists.unread.items ≡ c.args.lists.now.unread.items =
    reads_unchanged _ _ _ _ _ _ _ _ _ r c.requires.holds.settled.closed (first_names names i) off in
    let state : shown c.loop-name.lists ≡ shown c.args.lists.now =
    k.state ∙ ap (λ (f : List Bool). record (shown c.args.lists.now) { unread = f }) (sym r.flags ∙ flags) in
    c.value_of.ensures.again (rw flags (off _ (number_at names i (name_of 0) c.loop-name-test.true))) ∙ state

pub returns-in_err-push-clause-cost : goal.returns-in_err-push-clause-cost
returns-in_err-push-clause-cost g c =
    let k = c.loop-name.invariant.0 in
    let r = looks_reads _ _ _ _ _ _ k in
    let i = c.loop-name.name-index in
    let names = c.args.names.now in
    reads_stopped _ _ _ _ _ _ _ _ _ _ _ r
    (λ n h. first_names names (i + 1) n (subst (λ (xs : List ℕ). Contains xs n) (sym (numbers_more names i (name_of 0) c.loop-name-test.true)) h))
    (rw (looks_entries _ _ _ _ _ _ k) at c.value_of.ensures.cost)

pub loop-name-preserved : goal.loop-name-preserved
loop-name-preserved g c =
    rw (numbers_more c.args.names.now c.loop-name.name-index (name_of 0) c.loop-name-test.true, c.in_ok-push.ensures.items) (
      looks_more _ _ _ _ _ _ _ _ _ _ c.loop-name.invariant.0 c.value_of.ensures.holds c.in_ok-value.ensures.ok c.in_ok-value.ensures.value
          c.in_ok-value.ensures.steps,
      c.value_of.ensures.others ∙ ap (λ (w : Work g.row.L.Denot). record w { evaluated = c.value_of.new.work.evaluated }) c.loop-name.invariant.1,
    )

pub returns-clause-holds : goal.returns-clause-holds
returns-clause-holds g c = c.loop-name.invariant.0.holds

pub returns-clause-part : goal.returns-clause-part
returns-clause-part g c = looks_some _ _ _ _ _ _ c.loop-name.invariant.0

pub returns-clause-unread : goal.returns-clause-unread
returns-clause-unread g c =
    looks_needed _ _ _ _ _ _ _ c.loop-name.invariant.0 (first_names c.args.names.now c.loop-name.name-index)

pub returns-clause-again : goal.returns-clause-again
returns-clause-again g c = λ off.
    let k = c.loop-name.invariant.0 in
    let r = looks_reads _ _ _ _ _ _ k in
    let i = c.loop-name.name-index in
    let names = c.args.names.now in
    let flags : c.loop-name.lists.unread.items ≡ c.args.lists.now.unread.items =
    reads_unchanged _ _ _ _ _ _ _ _ _ r c.requires.holds.settled.closed (first_names names i) off in
    let state : shown c.loop-name.lists ≡ shown c.args.lists.now =
    k.state ∙ ap (λ (f : List Bool). record (shown c.args.lists.now) { unread = f }) (sym r.flags ∙ flags) in
    state

pub returns-clause-cost : goal.returns-clause-cost
returns-clause-cost g c = reads_spent_all _ _ _ _ _ _ _ _ _ (looks_reads _ _ _ _ _ _ c.loop-name.invariant.0) (first_names c.args.names.now c.loop-name.name-index)
