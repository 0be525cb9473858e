use Rattle.std.proofs.Common.{arith, ◌∙◌}
use Rattle.std.proofs.lemmas.List.{with_items_is}
use Rattle.fx_graph_model.specs.Marking.{IsClosedBut, MarksAll}
use Rattle.fx_graph_edges.proofs.NewlyLemmas.{newly_is}
use Rattle.fx_graph.proofs.marking.finish.Goals as goal

pub list_newly-requires-clause-few : goal.list_newly-requires-clause-few
list_newly-requires-clause-few c = λ i h.
    let l = c.args.lists.now in
    let b = c.requires.begun in
    let entries = c.as_slice.ensures.value in
    let unread = c.as_mut_slice.ensures.value in
    let work = c.as_mut_slice-2.ensures.value in
    let closed : IsClosedBut c.as_slice.result.now b.2 b.0 = rw entries b.3 in
    let marks : MarksAll b.0 b.2 b.1 0 c.as_mut_slice.result.now c.as_mut_slice-2.result.now c.args.count = rw (unread, work) b.4 in
    let listed = c.spread-end.ensures.listed b.0 b.1 b.2 closed marks in
    rw (c.as_mut_slice-3.ensures.value, with_items_is l.work c.spread-end.new.work (c.spread-end.auto.work ∙ c.as_mut_slice-2.ensures.len))
    (omega (arith, (listed.listed i h).0, b.4.flags, c.requires.roomy.flags, c.requires.roomy.few))

pub returns-clause-marked : goal.returns-clause-marked
returns-clause-marked c = λ names w was closed' marks'.
    let l = c.args.lists.now in
    let entries = c.as_slice.ensures.value in
    let closed : IsClosedBut c.as_slice.result.now was names = rw entries closed' in
    let marks : MarksAll names was w 0 c.as_mut_slice.result.now c.as_mut_slice-2.result.now c.args.count =
    rw (c.as_mut_slice.ensures.value, c.as_mut_slice-2.ensures.value) marks' in
    let marked = c.spread-end.ensures.marks names w was closed marks in
    let work = c.as_mut_slice-3.ensures.value ∙ with_items_is l.work c.spread-end.new.work (c.spread-end.auto.work ∙ c.as_mut_slice-2.ensures.len) in
    record {
      unread = with_items_is l.unread c.spread-end.new.unread (c.spread-end.auto.unread ∙ c.as_mut_slice.ensures.len) ∙ rw entries at marked;
      newly = rw (with_items_is l.newly c.list_newly.new.newly (c.list_newly.auto.newly ∙ c.as_mut_slice-4.ensures.len))
          (rw entries at
          (newly_is c.as_slice.result.now names was c.spread-end.new.unread c.spread-end.new.work _ c.spread-end.result
          (c.spread-end.ensures.listed names w was closed marks) c.spread-end.ensures.end marked
          (rw work at c.list_newly.ensures.moved) c.list_newly.ensures.rising));
    }
