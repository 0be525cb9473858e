use Rattle.std.proofs.Common.{◌≡◌, false, length, refl, ◌∙◌, arith}
use Rattle.std.proofs.lemmas.List.{with_items_is, length-set}
use Rattle.fx_expr.specs.Meaning.{no_value}
use Rattle.fx_graph_model.specs.Changes.{forgotten}
use Rattle.fx_graph_model.specs.Users.{Unlinks}
use Rattle.fx_graph_model.specs.Uses.{entry_of, uses}
use Rattle.fx_graph_model.proofs.Binding.{operand_count-set, operand_count-uses}
use Rattle.fx_graph_model.proofs.Edges.{mirrors_plain}
use Rattle.fx_graph.proofs.UnbindLemmas.{used_within}
use Rattle.fx_graph.proofs.forgetting.forget_one.Goals as goal

pub overflow_sub-left : goal.overflow_sub-left
overflow_sub-left c =
    let es = c.args.lists.now.entries.items in
    let used : c.operands_at.result ≡ length (uses es c.args.name) = rw c.as_slice.ensures.value at c.operands_at.ensures in
    omega (arith, used, operand_count-uses es c.args.name, c.requires.keeps.counted)

pub release_at-requires-clause-used : goal.release_at-requires-clause-used
release_at-requires-clause-used c =
    rw (c.as_slice-2.ensures.value, c.as_mut_slice.ensures.value)
    (λ operand member. used_within c.args.lists.now.entries.items c.args.lists.now.users.items c.requires.keeps.mirrors c.args.name operand member)

pub returns-clause-keeps : goal.returns-clause-keeps
returns-clause-keeps c =
    let l = c.args.lists.now in
    let es = l.entries.items in
    let k = c.requires.keeps in
    let n = c.args.name in
    let entry = forgotten (entry_of es n) in
    let users = with_items_is l.users c.release_at.new.users (c.release_at.auto.users ∙ c.as_mut_slice.ensures.len) in
    let written = with_items_is l.entries c.write_forgotten.new.entries (c.write_forgotten.auto.entries ∙ c.as_mut_slice-2.ensures.len)
    ∙ rw c.as_mut_slice-2.ensures.value at c.write_forgotten.ensures in
    let unlinked : Unlinks n (uses es n) l.users.items c.release_at.new.users = rw (c.as_slice-2.ensures.value, c.as_mut_slice.ensures.value) at c.release_at.ensures.unlinked in
    let used : c.operands_at.result ≡ length (uses es n) = rw c.as_slice.ensures.value at c.operands_at.ensures in
    record {
      mirrors = rw (written, users) (mirrors_plain es l.users.items c.release_at.new.users n entry k.mirrors unlinked refl c.requires.known);
      flags = rw written (omega (arith, length-set es n entry, k.flags, length-set l.unread.items n false));
      values = rw written (omega (arith, length-set es n entry, k.values, length-set l.cache.items n no_value));
      counted = rw written (omega (arith, operand_count-set es n entry c.requires.known, used, k.counted));
    }
