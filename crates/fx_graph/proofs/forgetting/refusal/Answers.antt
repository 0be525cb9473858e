use Rattle.std.proofs.Common.{List, sym, ap, ◌∙◌, arith}
use Rattle.fx_base.specs.Names.{numbers}
use Rattle.fx_graph_model.specs.declared.entries.Entry.{Entry}
use Rattle.fx_graph_model.specs.Refusals.{unknown_name}
use Rattle.fx_graph_model.proofs.Walks.{user_within}
use Rattle.fx_graph.proofs.ForgetLemmas.{known_names, unknown_refused, free_from_rows}
use Rattle.fx_graph.proofs.forgetting.refusal.Goals as goal

pub returns-in-Some-clause-refusal : goal.returns-in-Some-clause-refusal
returns-in-Some-clause-refusal c =
    let some = c.in-Some.ensures ∙ ap (λ (es : List Entry). unknown_name es c.args.names.now) c.as_slice.ensures.value in
    unknown_refused c.args.lists.now.entries.items c.args.names.now c.in-Some.unknown (sym some)

pub user_of-requires-clause-known : goal.user_of-requires-clause-known
user_of-requires-clause-known c = λ name member.
    let none = c.in_default.ensures ∙ ap (λ (es : List Entry). unknown_name es c.args.names.now) c.as_slice.ensures.value in
    known_names c.args.lists.now.entries.items c.args.names.now (sym none) name member

pub overflow_cast-result : goal.overflow_cast-result
overflow_cast-result c =
    let h = c.requires.holds in
    let found = c.in-Some-user_of.ensures.user.1 in
    let within = user_within c.args.lists.now.entries.items c.in-Some-user_of.user found.0 (h.mirrors.using c.in-Some-user_of.user found.0 found.2) in
    omega (arith, within, h.few)

pub returns-in-None-clause-refusal : goal.returns-in-None-clause-refusal
returns-in-None-clause-refusal c =
    let l = c.args.lists.now in
    let none = c.in_default.ensures ∙ ap (λ (es : List Entry). unknown_name es c.args.names.now) c.as_slice.ensures.value in
    (sym none, free_from_rows l.entries.items l.users.items (numbers c.args.names.now) c.requires.holds.mirrors c.in-None.ensures.user)
