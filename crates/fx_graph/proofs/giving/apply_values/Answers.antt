use Rattle.std.proofs.Common.{◌≡◌, List, false, length, Contains, inl, ap, refl, ◌∙◌}
use Rattle.std.specs.Vec.{with_items}
use Rattle.std.proofs.lemmas.List.{with_items_is}
use Rattle.std.proofs.lemmas.List.Elements.{All-contains}
use Rattle.fx_base.specs.declared.keys.Name.{Name}
use Rattle.fx_base.specs.declared.values.Value.{Value}
use Rattle.fx_graph_model.specs.declared.entries.Entry.{Entry}
use Rattle.fx_graph_model.specs.Changes.{with_values, changed}
use Rattle.fx_graph_model.specs.Marking.{IsClosedBut, MarksAll}
use Rattle.fx_graph_model.specs.Uses.{bound_in}
use Rattle.fx_graph_model.proofs.Given.{length-given, ranked_given, mirrors_given, uses-given}
use Rattle.fx_graph.specs.Given.{IsBase}
use Rattle.fx_graph.specs.Store.{IsMarked, shown}
use Rattle.fx_graph.specs.declared.lists.Lists.{Lists}
use Rattle.fx_graph.proofs.FinishLemmas.{store_finished, shown_finished}
use Rattle.fx_graph.proofs.StoreLemmas.{store_given}
use Rattle.fx_graph.proofs.giving.apply_values.Goals as goal

pub finish-requires-clause-ranks : goal.finish-requires-clause-ranks
finish-requires-clause-ranks c =
    let l = c.args.lists.now in
    let h = c.requires.holds in
    let es = l.entries.items in
    let pairs = c.args.pairs.now in
    let base : (p : Name × Value) → Contains pairs p → bound_in es p.0.0 ≡ false = λ p i. (All-contains (IsBase es) pairs p c.requires.base i).1 in
    let written : (with_items l.entries c.give.new.entries).items ≡ with_values c.args.sets pairs es =
    with_items_is l.entries c.give.new.entries (c.give.auto.entries ∙ c.as_mut_slice-3.ensures.len)
    ∙ c.give.ensures ∙ ap (λ (l : List Entry). with_values c.args.sets pairs l) c.as_mut_slice-3.ensures.value in
    rw written (h.ranks.0, ranked_given c.args.sets pairs es h.ranks.0 h.ranks.1)

pub finish-requires-clause-mirrors : goal.finish-requires-clause-mirrors
finish-requires-clause-mirrors c =
    let l = c.args.lists.now in
    let h = c.requires.holds in
    let es = l.entries.items in
    let pairs = c.args.pairs.now in
    let base : (p : Name × Value) → Contains pairs p → bound_in es p.0.0 ≡ false = λ p i. (All-contains (IsBase es) pairs p c.requires.base i).1 in
    let written : (with_items l.entries c.give.new.entries).items ≡ with_values c.args.sets pairs es =
    with_items_is l.entries c.give.new.entries (c.give.auto.entries ∙ c.as_mut_slice-3.ensures.len)
    ∙ c.give.ensures ∙ ap (λ (l : List Entry). with_values c.args.sets pairs l) c.as_mut_slice-3.ensures.value in
    rw written (mirrors_given c.args.sets pairs es l.users.items h.mirrors base)

pub finish-requires-clause-begun : goal.finish-requires-clause-begun
finish-requires-clause-begun c =
    let l = c.args.lists.now in
    let h = c.requires.holds in
    let es = l.entries.items in
    let pairs = c.args.pairs.now in
    let base : (p : Name × Value) → Contains pairs p → bound_in es p.0.0 ≡ false = λ p i. (All-contains (IsBase es) pairs p c.requires.base i).1 in
    let written : (with_items l.entries c.give.new.entries).items ≡ with_values c.args.sets pairs es =
    with_items_is l.entries c.give.new.entries (c.give.auto.entries ∙ c.as_mut_slice-3.ensures.len)
    ∙ c.give.ensures ∙ ap (λ (l : List Entry). with_values c.args.sets pairs l) c.as_mut_slice-3.ensures.value in
    let flags = with_items_is l.unread c.mark_changed-count.new.unread (c.mark_changed-count.auto.unread ∙ c.as_mut_slice.ensures.len) in
    let work = with_items_is l.work c.mark_changed-count.new.work (c.mark_changed-count.auto.work ∙ c.as_mut_slice-2.ensures.len) in
    let marks : MarksAll (changed pairs es) l.unread.items l.work.items 0 c.mark_changed-count.new.unread c.mark_changed-count.new.work c.mark_changed-count.result =
    rw (c.as_slice.ensures.value, c.as_mut_slice.ensures.value, c.as_mut_slice-2.ensures.value) at c.mark_changed-count.ensures in
    let closed : IsClosedBut (with_values c.args.sets pairs es) l.unread.items (changed pairs es) =
    λ user name i on. inl (h.settled.closed user name (uses-given c.args.sets pairs es user name i) on) in
    rw (written, flags, work) (changed pairs es, l.work.items, l.unread.items, closed, marks)

pub returns-clause-holds : goal.returns-clause-holds
returns-clause-holds c =
    let l = c.args.lists.now in
    let h = c.requires.holds in
    let es = l.entries.items in
    let pairs = c.args.pairs.now in
    let base : (p : Name × Value) → Contains pairs p → bound_in es p.0.0 ≡ false = λ p i. (All-contains (IsBase es) pairs p c.requires.base i).1 in
    let written : (with_items l.entries c.give.new.entries).items ≡ with_values c.args.sets pairs es =
    with_items_is l.entries c.give.new.entries (c.give.auto.entries ∙ c.as_mut_slice-3.ensures.len)
    ∙ c.give.ensures ∙ ap (λ (l : List Entry). with_values c.args.sets pairs l) c.as_mut_slice-3.ensures.value in
    let flags = with_items_is l.unread c.mark_changed-count.new.unread (c.mark_changed-count.auto.unread ∙ c.as_mut_slice.ensures.len) in
    let work = with_items_is l.work c.mark_changed-count.new.work (c.mark_changed-count.auto.work ∙ c.as_mut_slice-2.ensures.len) in
    let marks : MarksAll (changed pairs es) l.unread.items l.work.items 0 c.mark_changed-count.new.unread c.mark_changed-count.new.work c.mark_changed-count.result =
    rw (c.as_slice.ensures.value, c.as_mut_slice.ensures.value, c.as_mut_slice-2.ensures.value) at c.mark_changed-count.ensures in
    let closed : IsClosedBut (with_values c.args.sets pairs es) l.unread.items (changed pairs es) =
    λ user name i on. inl (h.settled.closed user name (uses-given c.args.sets pairs es user name i) on) in
    let f = c.finish.new.lists in
    let marked : IsMarked (changed pairs es) l.unread.items f = c.finish.ensures.marked (changed pairs es) l.work.items l.unread.items (rw written closed) (rw (flags, work) marks) in
    let long = length-given c.args.sets pairs es in
    let size : length f.entries.items ≡ length es = ap (λ (x : Lists). length x.entries.items) c.finish.ensures.kept ∙ ap length written ∙ long in
    store_finished (record l { entries = with_items l.entries c.give.new.entries; texts = c.give.new.texts }) f (changed pairs es) l.unread.items c.finish.ensures.kept marked
    (rw written
    (store_given es l.users.items l.unread.items l.spare.items l.newly.items l.newly_count l.cache.items l.work.items l.operand_count
    c.args.sets pairs f.newly.items f.newly_count f.work.items h c.requires.distinct c.requires.base
    (c.finish.ensures.roomy.newly ∙ size) (rw (ap length written ∙ long) at c.finish.ensures.few)
    (c.finish.ensures.roomy.work ∙ size)))

pub returns-clause-given : goal.returns-clause-given
returns-clause-given c =
    let l = c.args.lists.now in
    let h = c.requires.holds in
    let es = l.entries.items in
    let pairs = c.args.pairs.now in
    let base : (p : Name × Value) → Contains pairs p → bound_in es p.0.0 ≡ false = λ p i. (All-contains (IsBase es) pairs p c.requires.base i).1 in
    let written : (with_items l.entries c.give.new.entries).items ≡ with_values c.args.sets pairs es =
    with_items_is l.entries c.give.new.entries (c.give.auto.entries ∙ c.as_mut_slice-3.ensures.len)
    ∙ c.give.ensures ∙ ap (λ (l : List Entry). with_values c.args.sets pairs l) c.as_mut_slice-3.ensures.value in
    let flags = with_items_is l.unread c.mark_changed-count.new.unread (c.mark_changed-count.auto.unread ∙ c.as_mut_slice.ensures.len) in
    let work = with_items_is l.work c.mark_changed-count.new.work (c.mark_changed-count.auto.work ∙ c.as_mut_slice-2.ensures.len) in
    let marks : MarksAll (changed pairs es) l.unread.items l.work.items 0 c.mark_changed-count.new.unread c.mark_changed-count.new.work c.mark_changed-count.result =
    rw (c.as_slice.ensures.value, c.as_mut_slice.ensures.value, c.as_mut_slice-2.ensures.value) at c.mark_changed-count.ensures in
    let closed : IsClosedBut (with_values c.args.sets pairs es) l.unread.items (changed pairs es) =
    λ user name i on. inl (h.settled.closed user name (uses-given c.args.sets pairs es user name i) on) in
    let f = c.finish.new.lists in
    let marked : IsMarked (changed pairs es) l.unread.items f = c.finish.ensures.marked (changed pairs es) l.work.items l.unread.items (rw written closed) (rw (flags, work) marks) in
    rw written at (shown_finished (record l { entries = with_items l.entries c.give.new.entries; texts = c.give.new.texts }) f (changed pairs es) l.unread.items (shown l) c.finish.ensures.kept marked refl)
