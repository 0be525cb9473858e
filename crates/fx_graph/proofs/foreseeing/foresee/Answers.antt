use Rattle.std.proofs.Common.{◌≡◌, ◌<◌, List, Contains, length, take, refl, subst, ap, ◌∙◌, arith, inl}
use Rattle.std.specs.Vec.{with_items}
use Rattle.std.proofs.lemmas.List.{with_items_is}
use Rattle.fx_base.specs.Names.{numbers}
use Rattle.fx_base.specs.declared.keys.Name.{Name}
use Rattle.fx_graph_model.specs.Marking.{IsClosedBut, MarksAll}
use Rattle.fx_graph_model.specs.Unread.{after_marking, newly_marked}
use Rattle.fx_graph.specs.Store.{IsMarked}
use Rattle.fx_graph.specs.declared.lists.Lists.{Lists}
use Rattle.fx_graph.proofs.ForeseeLemmas.{cleared_back, length-marking, newly_within, store_foreseen}
use Rattle.fx_graph.proofs.foreseeing.foresee.Goals as goal

pub mark_names-count-requires-clause-known : goal.mark_names-count-requires-clause-known
mark_names-count-requires-clause-known c = λ name member.
    let h = c.requires.holds in
    omega (arith, h.settled.flags, ap length c.as_mut_slice.ensures.value, c.requires.known name member)

pub finish-requires-clause-begun : goal.finish-requires-clause-begun
finish-requires-clause-begun c =
    let l = c.args.lists.now in
    let h = c.requires.holds in
    let names = numbers c.args.names.now in
    let closed : IsClosedBut l.entries.items l.unread.items names = λ user name i on. inl (h.settled.closed user name i on) in
    let marks : MarksAll names l.unread.items l.work.items 0 c.mark_names-count.new.flags c.mark_names-count.new.work c.mark_names-count.result =
    rw (c.as_mut_slice.ensures.value, c.as_mut_slice-2.ensures.value) at c.mark_names-count.ensures in
    rw (
      with_items_is l.unread c.mark_names-count.new.flags (c.mark_names-count.auto.flags ∙ c.as_mut_slice.ensures.len),
      with_items_is l.work c.mark_names-count.new.work (c.mark_names-count.auto.work ∙ c.as_mut_slice-2.ensures.len),
    )
    (names, l.work.items, l.unread.items, closed, marks)

pub clear_marks-requires : goal.clear_marks-requires
clear_marks-requires c = λ name member.
    let l = c.args.lists.now in
    let h = c.requires.holds in
    let names = numbers c.args.names.now in
    let closed : IsClosedBut l.entries.items l.unread.items names = λ user name i on. inl (h.settled.closed user name i on) in
    let marks : MarksAll names l.unread.items l.work.items 0 c.mark_names-count.new.flags c.mark_names-count.new.work c.mark_names-count.result =
    rw (c.as_mut_slice.ensures.value, c.as_mut_slice-2.ensures.value) at c.mark_names-count.ensures in
    let flags = with_items_is l.unread c.mark_names-count.new.flags (c.mark_names-count.auto.flags ∙ c.as_mut_slice.ensures.len) in
    let work = with_items_is l.work c.mark_names-count.new.work (c.mark_names-count.auto.work ∙ c.as_mut_slice-2.ensures.len) in
    let f = c.finish.new.lists in
    let kept = c.finish.ensures.kept in
    let entries : f.entries ≡ l.entries = ap (λ (x : Lists). x.entries) kept in
    let marked : IsMarked names l.unread.items f = c.finish.ensures.marked names l.work.items l.unread.items closed (rw (flags, work) marks) in
    let unread : f.unread.items ≡ after_marking l.entries.items names l.unread.items = rw entries at marked.unread in
    let newly : numbers (take f.newly_count f.newly.items) ≡ newly_marked l.entries.items names l.unread.items = rw entries at marked.newly in
    let listed : Contains (newly_marked l.entries.items names l.unread.items) name =
    subst (λ ns. Contains ns name) newly
    (subst (λ (ns : List Name). Contains (numbers (take f.newly_count ns)) name) c.as_slice.ensures.value member) in
    let within : name < length l.unread.items = newly_within l.entries.items names l.unread.items name listed in
    omega (arith, within, ap length c.as_mut_slice-3.ensures.value, ap length unread, length-marking l.entries.items names l.unread.items)

pub returns-clause-holds : goal.returns-clause-holds
returns-clause-holds c =
    let l = c.args.lists.now in
    let h = c.requires.holds in
    let names = numbers c.args.names.now in
    let closed : IsClosedBut l.entries.items l.unread.items names = λ user name i on. inl (h.settled.closed user name i on) in
    let marks : MarksAll names l.unread.items l.work.items 0 c.mark_names-count.new.flags c.mark_names-count.new.work c.mark_names-count.result =
    rw (c.as_mut_slice.ensures.value, c.as_mut_slice-2.ensures.value) at c.mark_names-count.ensures in
    let flags = with_items_is l.unread c.mark_names-count.new.flags (c.mark_names-count.auto.flags ∙ c.as_mut_slice.ensures.len) in
    let work = with_items_is l.work c.mark_names-count.new.work (c.mark_names-count.auto.work ∙ c.as_mut_slice-2.ensures.len) in
    let f = c.finish.new.lists in
    let kept = c.finish.ensures.kept in
    let entries : f.entries ≡ l.entries = ap (λ (x : Lists). x.entries) kept in
    let marked : IsMarked names l.unread.items f = c.finish.ensures.marked names l.work.items l.unread.items closed (rw (flags, work) marks) in
    let unread : f.unread.items ≡ after_marking l.entries.items names l.unread.items = rw entries at marked.unread in
    let newly : numbers (take f.newly_count f.newly.items) ≡ newly_marked l.entries.items names l.unread.items = rw entries at marked.newly in
    let back : (with_items f.unread c.clear_marks.new.unread).items ≡ l.unread.items =
    with_items_is f.unread c.clear_marks.new.unread (c.clear_marks.auto.unread ∙ c.as_mut_slice-3.ensures.len)
    ∙ cleared_back l.entries.items names l.unread.items f.unread.items c.as_mut_slice-3.result.now c.clear_marks.new.unread f.newly.items
    c.as_slice.result.now f.newly_count c.as_mut_slice-3.ensures.value c.as_slice.ensures.value unread newly c.clear_marks.ensures in
    let users : f.users ≡ l.users = ap (λ (x : Lists). x.users) kept in
    let spare : f.spare ≡ l.spare = ap (λ (x : Lists). x.spare) kept in
    let cache : f.cache ≡ l.cache = ap (λ (x : Lists). x.cache) kept in
    let count : f.operand_count ≡ l.operand_count = ap (λ (x : Lists). x.operand_count) kept in
    let size : length f.entries.items ≡ length l.entries.items = ap (λ (x : Lists). length x.entries.items) kept in
    rw (entries, users, spare, cache, count, back)
    (store_foreseen l.entries.items l.users.items l.unread.items l.spare.items l.newly.items l.newly_count l.cache.items
    l.work.items l.operand_count f.newly.items f.newly_count f.work.items h (c.finish.ensures.roomy.newly ∙ size) c.finish.ensures.few
    (c.finish.ensures.roomy.work ∙ size))

pub returns-clause-foreseen : goal.returns-clause-foreseen
returns-clause-foreseen c =
    let l = c.args.lists.now in
    let h = c.requires.holds in
    let names = numbers c.args.names.now in
    let closed : IsClosedBut l.entries.items l.unread.items names = λ user name i on. inl (h.settled.closed user name i on) in
    let marks : MarksAll names l.unread.items l.work.items 0 c.mark_names-count.new.flags c.mark_names-count.new.work c.mark_names-count.result =
    rw (c.as_mut_slice.ensures.value, c.as_mut_slice-2.ensures.value) at c.mark_names-count.ensures in
    let flags = with_items_is l.unread c.mark_names-count.new.flags (c.mark_names-count.auto.flags ∙ c.as_mut_slice.ensures.len) in
    let work = with_items_is l.work c.mark_names-count.new.work (c.mark_names-count.auto.work ∙ c.as_mut_slice-2.ensures.len) in
    let f = c.finish.new.lists in
    let kept = c.finish.ensures.kept in
    let entries : f.entries ≡ l.entries = ap (λ (x : Lists). x.entries) kept in
    let marked : IsMarked names l.unread.items f = c.finish.ensures.marked names l.work.items l.unread.items closed (rw (flags, work) marks) in
    let unread : f.unread.items ≡ after_marking l.entries.items names l.unread.items = rw entries at marked.unread in
    let newly : numbers (take f.newly_count f.newly.items) ≡ newly_marked l.entries.items names l.unread.items = rw entries at marked.newly in
    let back : (with_items f.unread c.clear_marks.new.unread).items ≡ l.unread.items =
    with_items_is f.unread c.clear_marks.new.unread (c.clear_marks.auto.unread ∙ c.as_mut_slice-3.ensures.len)
    ∙ cleared_back l.entries.items names l.unread.items f.unread.items c.as_mut_slice-3.result.now c.clear_marks.new.unread f.newly.items
    c.as_slice.result.now f.newly_count c.as_mut_slice-3.ensures.value c.as_slice.ensures.value unread newly c.clear_marks.ensures in
    rw (entries, back, newly) refl
