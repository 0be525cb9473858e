use Rattle.std.proofs.Common.{◌≡◌, true, length, refl, ap, ◌∙◌, arith}
use Rattle.std.proofs.lemmas.List.{with_items_is}
use Rattle.fx_graph_model.specs.Changes.{State, given}
use Rattle.fx_graph_model.specs.Eager.{eager}
use Rattle.fx_graph_model.specs.Users.{Unlinks}
use Rattle.fx_graph_model.specs.Uses.{bound_in, entry_of, uses}
use Rattle.fx_graph_model.proofs.Binding.{operand_count-uses, settled_unbound}
use Rattle.fx_graph_model.proofs.Changed.{bound_known, known_within}
use Rattle.fx_graph_model.proofs.Edges.{mirrors_plain}
use Rattle.fx_graph.proofs.UnbindLemmas.{store_unbound, used_within}
use Rattle.fx_graph.proofs.unbinding.unbind_name.Goals as goal

pub overflow_sub-left : goal.overflow_sub-left
overflow_sub-left g c =
    let r = c.value_of.new.lists in
    let used : c.operands_at.result ≡ length (uses r.entries.items c.args.name) = rw c.as_slice.ensures.value at c.operands_at.ensures in
    omega (arith, used, operand_count-uses r.entries.items c.args.name, c.value_of.ensures.holds.counted)

pub release_at-requires-clause-used : goal.release_at-requires-clause-used
release_at-requires-clause-used g c =
    let r = c.value_of.new.lists in
    rw (c.as_slice-2.ensures.value, c.as_mut_slice.ensures.value)
    (λ operand member. used_within r.entries.items r.users.items c.value_of.ensures.holds.mirrors c.args.name operand member)

pub returns-clause-holds : goal.returns-clause-holds
returns-clause-holds g c =
    let r = c.value_of.new.lists in
    let h = c.value_of.ensures.holds in
    let es = r.entries.items in
    let n = c.args.name in
    let entries : es ≡ c.args.lists.now.entries.items = ap (λ (s : State). s.entries) c.in_ok-value.ensures.ok in
    let bound : bound_in es n ≡ true = rw entries c.requires.bound in
    let within = known_within es n (bound_known es n bound) in
    let kept = given true (eager es n) (entry_of es n) in
    let value : c.in_ok-value.value ≡ eager es n = rw entries c.in_ok-value.ensures.value in
    let users = with_items_is r.users c.release_at.new.users (c.release_at.auto.users ∙ c.as_mut_slice.ensures.len) in
    let written = with_items_is r.entries c.write_value.new.entries (c.write_value.auto.entries ∙ c.as_mut_slice-2.ensures.len)
    ∙ rw (c.as_mut_slice-2.ensures.value, value) at c.write_value.ensures in
    let unlinked : Unlinks n (uses es n) r.users.items c.release_at.new.users = rw (c.as_slice-2.ensures.value, c.as_mut_slice.ensures.value) at c.release_at.ensures.unlinked in
    let used : c.operands_at.result ≡ length (uses es n) = rw c.as_slice.ensures.value at c.operands_at.ensures in
    rw (written, users)
    (store_unbound es r.users.items r.unread.items r.spare.items r.newly.items r.newly_count r.cache.items r.work.items r.operand_count
    n c.release_at.new.users r.unread.items r.cache.items r.work.items _ h bound
    (mirrors_plain es r.users.items c.release_at.new.users n kept h.mirrors unlinked refl within)
    (settled_unbound es h.ranks.0 h.ranks.1 n r.unread.items r.cache.items h.settled) h.work_length
    (omega (arith, used, operand_count-uses es n, h.counted)))
