use Rattle.std.proofs.Common.{◌≡◌, [], ◌∷◌, List, Bool, length, sym, subst, ap, ◌∙◌, arith}
use Rattle.std.specs.Vec.{with_items}
use Rattle.std.proofs.lemmas.List.{with_items_is, length-replicate}
use Rattle.fx_graph_model.specs.Marking.{IsClosedBut, Listed, MarksAll}
use Rattle.fx_graph_model.proofs.Flags.{unmarked_most}
use Rattle.fx_graph_model.proofs.Refusing.{closed_blank}
use Rattle.fx_graph.proofs.BindLemmas.{marks_one, marked_leads}
use Rattle.fx_graph.proofs.binding.cycle.Goals as goal

pub mark_one-count-requires-clause-room : goal.mark_one-count-requires-clause-room
mark_one-count-requires-clause-room c =
    let h = c.requires.holds in
    let flags : length c.as_mut_slice.result.now ≡ length c.args.lists.now.entries.items = ap length (c.as_mut_slice.ensures.value ∙ h.spare_unset) ∙ length-replicate _ _ in
    let work : length c.as_mut_slice-2.result.now ≡ length c.args.lists.now.entries.items = ap length c.as_mut_slice-2.ensures.value ∙ h.work_length in
    omega (arith, flags, work, unmarked_most c.as_mut_slice.result.now)

pub spread-end-requires-clause-begun : goal.spread-end-requires-clause-begun
spread-end-requires-clause-begun c =
    let l = c.args.lists.now in
    let h = c.requires.holds in
    let es = l.entries.items in
    let n = c.args.name in
    let closed : IsClosedBut es l.spare.items (n ∷ []) = subst (λ (f : List Bool). IsClosedBut es f (n ∷ [])) (sym h.spare_unset) (closed_blank es (length es) (n ∷ [])) in
    let flags : length l.spare.items ≡ length es = ap length h.spare_unset ∙ length-replicate _ _ in
    let marks : MarksAll (n ∷ []) l.spare.items l.work.items 0 c.mark_one-count.new.unread c.mark_one-count.new.work c.mark_one-count.result =
    marks_one l.spare.items l.work.items n _ _ _ (omega (arith, c.requires.known, flags)) (omega (arith, flags, h.work_length))
    (rw c.as_mut_slice.ensures.value at c.mark_one-count.ensures.flags) (rw (c.as_mut_slice.ensures.value, c.as_mut_slice-2.ensures.value) at c.mark_one-count.ensures.work)
    (rw c.as_mut_slice.ensures.value at c.mark_one-count.ensures.count) in
    rw (
      c.as_slice.ensures.value,
      c.as_mut_slice-3.ensures.value,
      c.as_mut_slice-4.ensures.value,
      with_items_is l.spare c.mark_one-count.new.unread (c.mark_one-count.auto.unread ∙ c.as_mut_slice.ensures.len),
      with_items_is l.work c.mark_one-count.new.work (c.mark_one-count.auto.work ∙ c.as_mut_slice-2.ensures.len),
    )
    (n ∷ [], l.work.items, l.spare.items, closed, marks)

pub take_back-requires-clause-listed : goal.take_back-requires-clause-listed
take_back-requires-clause-listed c =
    let l = c.args.lists.now in
    let h = c.requires.holds in
    let es = l.entries.items in
    let n = c.args.name in
    let closed : IsClosedBut es l.spare.items (n ∷ []) = subst (λ (f : List Bool). IsClosedBut es f (n ∷ [])) (sym h.spare_unset) (closed_blank es (length es) (n ∷ [])) in
    let flags : length l.spare.items ≡ length es = ap length h.spare_unset ∙ length-replicate _ _ in
    let marks : MarksAll (n ∷ []) l.spare.items l.work.items 0 c.mark_one-count.new.unread c.mark_one-count.new.work c.mark_one-count.result =
    marks_one l.spare.items l.work.items n _ _ _ (omega (arith, c.requires.known, flags)) (omega (arith, flags, h.work_length))
    (rw c.as_mut_slice.ensures.value at c.mark_one-count.ensures.flags) (rw (c.as_mut_slice.ensures.value, c.as_mut_slice-2.ensures.value) at c.mark_one-count.ensures.work)
    (rw c.as_mut_slice.ensures.value at c.mark_one-count.ensures.count) in
    let spare = c.as_mut_slice-3.ensures.value ∙ with_items_is l.spare c.mark_one-count.new.unread (c.mark_one-count.auto.unread ∙ c.as_mut_slice.ensures.len) in
    let work = c.as_mut_slice-4.ensures.value ∙ with_items_is l.work c.mark_one-count.new.work (c.mark_one-count.auto.work ∙ c.as_mut_slice-2.ensures.len) in
    let listed : Listed l.spare.items c.spread-end.new.unread c.spread-end.new.work c.spread-end.result =
    c.spread-end.ensures.listed (n ∷ []) l.work.items l.spare.items (rw c.as_slice.ensures.value closed) (rw (spare, work) marks) in
    let unread = c.as_mut_slice-5.ensures.value ∙ with_items_is (with_items l.spare c.mark_one-count.new.unread) c.spread-end.new.unread (c.spread-end.auto.unread ∙ c.as_mut_slice-3.ensures.len) in
    let left = c.as_slice-4.ensures.value ∙ with_items_is (with_items l.work c.mark_one-count.new.work) c.spread-end.new.work (c.spread-end.auto.work ∙ c.as_mut_slice-4.ensures.len) in
    let size : length c.spread-end.new.unread ≡ length es = listed.flags ∙ flags in
    rw (unread, left, size) (subst (λ (f : List Bool). Listed f c.spread-end.new.unread c.spread-end.new.work c.spread-end.result) h.spare_unset listed)

pub returns-clause-refusal : goal.returns-clause-refusal
returns-clause-refusal c =
    let l = c.args.lists.now in
    let h = c.requires.holds in
    let es = l.entries.items in
    let n = c.args.name in
    let closed : IsClosedBut es l.spare.items (n ∷ []) = subst (λ (f : List Bool). IsClosedBut es f (n ∷ [])) (sym h.spare_unset) (closed_blank es (length es) (n ∷ [])) in
    let flags : length l.spare.items ≡ length es = ap length h.spare_unset ∙ length-replicate _ _ in
    let marks : MarksAll (n ∷ []) l.spare.items l.work.items 0 c.mark_one-count.new.unread c.mark_one-count.new.work c.mark_one-count.result =
    marks_one l.spare.items l.work.items n _ _ _ (omega (arith, c.requires.known, flags)) (omega (arith, flags, h.work_length))
    (rw c.as_mut_slice.ensures.value at c.mark_one-count.ensures.flags) (rw (c.as_mut_slice.ensures.value, c.as_mut_slice-2.ensures.value) at c.mark_one-count.ensures.work)
    (rw c.as_mut_slice.ensures.value at c.mark_one-count.ensures.count) in
    let spare = c.as_mut_slice-3.ensures.value ∙ with_items_is l.spare c.mark_one-count.new.unread (c.mark_one-count.auto.unread ∙ c.as_mut_slice.ensures.len) in
    let work = c.as_mut_slice-4.ensures.value ∙ with_items_is l.work c.mark_one-count.new.work (c.mark_one-count.auto.work ∙ c.as_mut_slice-2.ensures.len) in
    let marked = c.spread-end.ensures.marks (n ∷ []) l.work.items l.spare.items (rw c.as_slice.ensures.value closed) (rw (spare, work) marks) in
    let seen = c.as_slice-3.ensures.value ∙ with_items_is (with_items l.spare c.mark_one-count.new.unread) c.spread-end.new.unread (c.spread-end.auto.unread ∙ c.as_mut_slice-3.ensures.len) in
    c.marked_operand-refusal.ensures
    ∙ marked_leads es c.as_slice-3.result.now n c.args.operands.now (seen ∙ rw (c.as_slice.ensures.value, h.spare_unset) at marked) c.requires.operands
