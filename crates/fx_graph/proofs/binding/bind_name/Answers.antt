use Rattle.std.proofs.Common.{◌≡◌, true, length, ap, sym, ◌∙◌, arith}
use Rattle.std.proofs.lemmas.List.{with_items_is, length-map, length-set}
use Rattle.fx_base.specs.declared.keys.Name.{Name}
use Rattle.fx_base.specs.Names.{numbers}
use Rattle.fx_expr.specs.Tree.{is_within}
use Rattle.fx_graph_model.specs.Changes.{bound_to, with_binding}
use Rattle.fx_graph_model.specs.Users.{Mirrors}
use Rattle.fx_graph_model.specs.Uses.{entry_of, uses}
use Rattle.fx_graph_model.proofs.Binding.{operand_count-uses}
use Rattle.fx_graph_model.proofs.Changed.{known_within}
use Rattle.fx_graph_model.proofs.Refusing.{bindable}
use Rattle.fx_graph.specs.declared.lists.Lists.{Lists}
use Rattle.fx_graph.proofs.BindLemmas.{bind_ranked, store_bound}
use Rattle.fx_graph.proofs.binding.bind_name.Goals as goal

pub operands_at-requires : goal.operands_at-requires
operands_at-requires c =
    let l = c.args.lists.now in
    let h = c.requires.holds in
    let es = l.entries.items in
    let b = bindable c.args.name c.args.expr c.args.operands.items es c.requires.allowed in
    rw c.as_slice.ensures.value (known_within es c.args.name.0 b.known)

pub overflow_sub-others : goal.overflow_sub-others
overflow_sub-others c =
    let l = c.args.lists.now in
    let used : c.operands_at.result ≡ length (uses l.entries.items c.args.name.0) = rw c.as_slice.ensures.value at c.operands_at.ensures in
    omega (arith, used, operand_count-uses l.entries.items c.args.name.0, c.requires.holds.counted)

pub relink-requires-clause-known : goal.relink-requires-clause-known
relink-requires-clause-known c =
    let l = c.args.lists.now in
    let h = c.requires.holds in
    let es = l.entries.items in
    let b = bindable c.args.name c.args.expr c.args.operands.items es c.requires.allowed in
    rw c.as_slice-2.ensures.value (known_within es c.args.name.0 b.known)

pub relink-requires-clause-used : goal.relink-requires-clause-used
relink-requires-clause-used c =
    rw c.as_slice-2.ensures.value (λ operand member. c.requires.holds.ranks.1.within c.args.name.0 operand member)

pub relink-requires-clause-operands : goal.relink-requires-clause-operands
relink-requires-clause-operands c =
    let l = c.args.lists.now in
    let h = c.requires.holds in
    let es = l.entries.items in
    let b = bindable c.args.name c.args.expr c.args.operands.items es c.requires.allowed in
    rw (c.as_slice-2.ensures.value, c.as_slice-3.ensures.value) (λ operand member. known_within es operand (b.operands_known operand member))

pub bind_linked-requires-clause-ranks : goal.bind_linked-requires-clause-ranks
bind_linked-requires-clause-ranks c =
    let l = c.args.lists.now in
    let h = c.requires.holds in
    let es = l.entries.items in
    let b = bindable c.args.name c.args.expr c.args.operands.items es c.requires.allowed in
    bind_ranked es h.ranks.0 h.ranks.1 c.args.name.0 c.args.expr (numbers c.args.operands.items) b

pub bind_linked-requires-clause-known : goal.bind_linked-requires-clause-known
bind_linked-requires-clause-known c =
    let l = c.args.lists.now in
    let h = c.requires.holds in
    let es = l.entries.items in
    let b = bindable c.args.name c.args.expr c.args.operands.items es c.requires.allowed in
    known_within es c.args.name.0 b.known

pub returns-clause-holds : goal.returns-clause-holds
returns-clause-holds c =
    let l = c.args.lists.now in
    let h = c.requires.holds in
    let es = l.entries.items in
    let b = bindable c.args.name c.args.expr c.args.operands.items es c.requires.allowed in
    let f = c.bind_linked.new.lists in
    let names = numbers c.args.operands.items in
    let kept = c.bind_linked.ensures.kept in
    let users : f.users.items ≡ c.relink.new.users =
    ap (λ (x : Lists). x.users.items) kept ∙ with_items_is l.users c.relink.new.users (c.relink.auto.users ∙ c.as_mut_slice.ensures.len) in
    let spare : f.spare ≡ l.spare = ap (λ (x : Lists). x.spare) kept in
    let cache : f.cache ≡ l.cache = ap (λ (x : Lists). x.cache) kept in
    let count = ap (λ (x : Lists). x.operand_count) kept in
    let written : f.entries.items ≡ with_binding c.args.name.0 c.args.expr names es = c.bind_linked.ensures.entries in
    let size : length f.entries.items ≡ length es = ap length written ∙ length-set es c.args.name.0 (bound_to c.args.expr names (entry_of es c.args.name.0)) in
    let long : length names ≡ length c.args.operands.items = length-map c.args.operands.items (λ (n : Name). n.0) in
    let places : is_within c.args.expr (length names) ≡ true = rw long c.requires.places in
    let used : c.operands_at.result ≡ length (uses es c.args.name.0) = rw c.as_slice.ensures.value at c.operands_at.ensures in
    let mirrors : Mirrors (with_binding c.args.name.0 c.args.expr names es) c.relink.new.users =
    rw c.as_slice-2.ensures.value at
    (c.in_ok-relink.ensures.ok (bound_to c.args.expr names (entry_of es c.args.name.0)) (ap numbers (sym c.as_slice-3.ensures.value))) in
    let unread = rw written at c.bind_linked.ensures.marked.unread in
    rw (written, users, spare, cache, count, unread)
    (store_bound es l.users.items c.relink.new.users l.unread.items l.spare.items l.newly.items l.newly_count l.cache.items l.work.items l.operand_count
    c.args.name.0 c.args.expr names f.newly.items f.newly_count f.work.items _ h b places mirrors
    (c.bind_linked.ensures.roomy.newly ∙ size) c.bind_linked.ensures.few (c.bind_linked.ensures.roomy.work ∙ size)
    (omega (arith, long, used, c.len.ensures, operand_count-uses es c.args.name.0, h.counted)))
