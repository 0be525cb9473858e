use Rattle.std.proofs.Common.{◌≡◌, false, length, replicate, ap, ◌∙◌, arith}
use Rattle.std.proofs.lemmas.List.{with_items_is, length-replicate}
use Rattle.fx_graph_model.proofs.Flags.{unmarked_most}
use Rattle.fx_graph_model.proofs.MarkSteps.{listed_start}
use Rattle.fx_graph.proofs.ForgetLemmas.{flagged}
use Rattle.fx_graph.proofs.forgetting.user_of.Goals as goal

pub mark_names-count-requires-clause-known : goal.mark_names-count-requires-clause-known
mark_names-count-requires-clause-known c = λ name member.
    let h = c.requires.holds in
    let flags : length c.as_mut_slice.result.now ≡ length c.args.lists.now.entries.items = ap length (c.as_mut_slice.ensures.value ∙ h.spare_unset) ∙ length-replicate _ _ in
    omega (arith, flags, c.requires.known name member)

pub mark_names-count-requires-clause-room : goal.mark_names-count-requires-clause-room
mark_names-count-requires-clause-room c =
    let h = c.requires.holds in
    let flags : length c.as_mut_slice.result.now ≡ length c.args.lists.now.entries.items = ap length (c.as_mut_slice.ensures.value ∙ h.spare_unset) ∙ length-replicate _ _ in
    let work : length c.as_mut_slice-2.result.now ≡ length c.args.lists.now.entries.items = ap length c.as_mut_slice-2.ensures.value ∙ h.work_length in
    omega (arith, flags, work)

pub bound_outside-user-requires-clause-known : goal.bound_outside-user-requires-clause-known
bound_outside-user-requires-clause-known c = λ name member.
    rw c.as_slice.ensures.value (omega (arith, c.requires.holds.mirrors.rows, c.requires.known name member))

pub bound_outside-user-requires-clause-flagged : goal.bound_outside-user-requires-clause-flagged
bound_outside-user-requires-clause-flagged c =
    let l = c.args.lists.now in
    let marks = rw (c.as_mut_slice.ensures.value ∙ c.requires.holds.spare_unset) at c.mark_names-count.ensures in
    rw (c.as_slice-2.ensures.value, with_items_is l.spare c.mark_names-count.new.flags (c.mark_names-count.auto.flags ∙ c.as_mut_slice.ensures.len))
    (flagged (length l.entries.items) _ _ _ _ _ marks)

pub take_back-requires-clause-listed : goal.take_back-requires-clause-listed
take_back-requires-clause-listed c =
    let l = c.args.lists.now in
    let marks = rw (c.as_mut_slice.ensures.value ∙ c.requires.holds.spare_unset) at c.mark_names-count.ensures in
    let listed = marks.goes_on (replicate (length l.entries.items) false) (listed_start _ _) in
    let flags = c.as_mut_slice-3.ensures.value ∙ with_items_is l.spare c.mark_names-count.new.flags (c.mark_names-count.auto.flags ∙ c.as_mut_slice.ensures.len) in
    let work = c.as_slice-3.ensures.value ∙ with_items_is l.work c.mark_names-count.new.work (c.mark_names-count.auto.work ∙ c.as_mut_slice-2.ensures.len) in
    let size : length c.mark_names-count.new.flags ≡ length l.entries.items = marks.flags ∙ length-replicate _ _ in
    rw (flags, work, size) listed

pub take_back-requires-clause-places : goal.take_back-requires-clause-places
take_back-requires-clause-places c =
    let l = c.args.lists.now in
    let h = c.requires.holds in
    let marks = c.mark_names-count.ensures in
    let flags : length c.as_mut_slice.result.now ≡ length l.entries.items = ap length (c.as_mut_slice.ensures.value ∙ h.spare_unset) ∙ length-replicate _ _ in
    let work = c.as_slice-3.ensures.value ∙ with_items_is l.work c.mark_names-count.new.work (c.mark_names-count.auto.work ∙ c.as_mut_slice-2.ensures.len) in
    let old : length c.as_mut_slice-2.result.now ≡ length l.entries.items = ap length c.as_mut_slice-2.ensures.value ∙ h.work_length in
    rw work (omega (arith, marks.room, marks.places, unmarked_most c.as_mut_slice.result.now, flags, old))
