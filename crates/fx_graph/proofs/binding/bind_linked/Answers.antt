use Rattle.std.proofs.Common.{◌≡◌, [], ◌∷◌, List, length, ap, ◌∙◌, arith}
use Rattle.std.specs.Vec.{with_items}
use Rattle.std.proofs.lemmas.List.{with_items_is}
use Rattle.fx_base.specs.Names.{numbers}
use Rattle.fx_graph_model.specs.declared.entries.Entry.{Entry}
use Rattle.fx_graph_model.specs.Changes.{bound_to, with_binding}
use Rattle.fx_graph_model.specs.Marking.{IsClosedBut, MarksAll}
use Rattle.fx_graph_model.specs.Uses.{entry_of}
use Rattle.fx_graph_model.proofs.Binding.{closed_bound}
use Rattle.fx_graph_model.proofs.Flags.{unmarked_most}
use Rattle.fx_graph.proofs.BindLemmas.{marks_one}
use Rattle.fx_graph.proofs.binding.bind_linked.Goals as goal

pub mark_one-count-requires-clause-room : goal.mark_one-count-requires-clause-room
mark_one-count-requires-clause-room c =
    let flags = ap length c.as_mut_slice-2.ensures.value in
    let work = ap length c.as_mut_slice-3.ensures.value in
    omega (arith, c.requires.roomy.flags, c.requires.roomy.work, flags, work, unmarked_most c.as_mut_slice-2.result.now)

pub finish-requires-clause-begun : goal.finish-requires-clause-begun
finish-requires-clause-begun c =
    let l = c.args.lists.now in
    let es = l.entries.items in
    let n = c.args.name in
    let operands = numbers c.args.operands.items in
    let written : (with_items l.entries c.write_binding.new.entries).items ≡ with_binding n c.args.expr operands es =
    with_items_is l.entries c.write_binding.new.entries (c.write_binding.auto.entries ∙ c.as_mut_slice.ensures.len)
    ∙ c.write_binding.ensures ∙ ap (λ (es : List Entry). with_binding n c.args.expr operands es) c.as_mut_slice.ensures.value in
    let closed : IsClosedBut (with_binding n c.args.expr operands es) l.unread.items (n ∷ []) =
    closed_bound es n (bound_to c.args.expr operands (entry_of es n)) l.unread.items c.requires.closed in
    let marks : MarksAll (n ∷ []) l.unread.items l.work.items 0 c.mark_one-count.new.unread c.mark_one-count.new.work c.mark_one-count.result =
    marks_one l.unread.items l.work.items n _ _ _ (omega (arith, c.requires.known, c.requires.roomy.flags)) (omega (arith, c.requires.roomy.work, c.requires.roomy.flags))
    (rw c.as_mut_slice-2.ensures.value at c.mark_one-count.ensures.flags) (rw (c.as_mut_slice-2.ensures.value, c.as_mut_slice-3.ensures.value) at c.mark_one-count.ensures.work)
    (rw c.as_mut_slice-2.ensures.value at c.mark_one-count.ensures.count) in
    let flags = with_items_is l.unread c.mark_one-count.new.unread (c.mark_one-count.auto.unread ∙ c.as_mut_slice-2.ensures.len) in
    let work = with_items_is l.work c.mark_one-count.new.work (c.mark_one-count.auto.work ∙ c.as_mut_slice-3.ensures.len) in
    rw (written, flags, work) (n ∷ [], l.work.items, l.unread.items, closed, marks)

pub returns-clause-marked : goal.returns-clause-marked
returns-clause-marked c =
    let l = c.args.lists.now in
    let es = l.entries.items in
    let n = c.args.name in
    let operands = numbers c.args.operands.items in
    let written : (with_items l.entries c.write_binding.new.entries).items ≡ with_binding n c.args.expr operands es =
    with_items_is l.entries c.write_binding.new.entries (c.write_binding.auto.entries ∙ c.as_mut_slice.ensures.len)
    ∙ c.write_binding.ensures ∙ ap (λ (es : List Entry). with_binding n c.args.expr operands es) c.as_mut_slice.ensures.value in
    let closed : IsClosedBut (with_binding n c.args.expr operands es) l.unread.items (n ∷ []) =
    closed_bound es n (bound_to c.args.expr operands (entry_of es n)) l.unread.items c.requires.closed in
    let marks : MarksAll (n ∷ []) l.unread.items l.work.items 0 c.mark_one-count.new.unread c.mark_one-count.new.work c.mark_one-count.result =
    marks_one l.unread.items l.work.items n _ _ _ (omega (arith, c.requires.known, c.requires.roomy.flags)) (omega (arith, c.requires.roomy.work, c.requires.roomy.flags))
    (rw c.as_mut_slice-2.ensures.value at c.mark_one-count.ensures.flags) (rw (c.as_mut_slice-2.ensures.value, c.as_mut_slice-3.ensures.value) at c.mark_one-count.ensures.work)
    (rw c.as_mut_slice-2.ensures.value at c.mark_one-count.ensures.count) in
    let flags = with_items_is l.unread c.mark_one-count.new.unread (c.mark_one-count.auto.unread ∙ c.as_mut_slice-2.ensures.len) in
    let work = with_items_is l.work c.mark_one-count.new.work (c.mark_one-count.auto.work ∙ c.as_mut_slice-3.ensures.len) in
    c.finish.ensures.marked (n ∷ []) l.work.items l.unread.items (rw written closed) (rw (flags, work) marks)
