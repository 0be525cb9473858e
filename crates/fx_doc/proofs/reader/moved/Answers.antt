use Rattle.std.proofs.Common.{Option, sym, subst}
use Rattle.fx_doc_grammar.specs.Characters.{class_of}
use Rattle.fx_doc_grammar.specs.Machine.{State, move}
use Rattle.fx_doc_runs.specs.Views.{Moves, held_view, mode_view, stack_view}
use Rattle.fx_doc_runs.specs.declared.modes.Mode.{Mode}
use Rattle.fx_doc.proofs.reader.moved.Goals as goal

pub returns-in-Commented : goal.returns-in-Commented
returns-in-Commented c =
    let held = c.args.held.now in
    let stack = stack_view held.stack.items in
    let result = c.goes_lightly-in-Commented.result in
    subst (λ (m : Mode). Moves (move c.args.position (held_view held) (mode_view stack m) c.args.c (class_of c.args.c))
    held result) (sym c.in-Commented.is)
    (subst (λ (o : Option State). Moves o held result)
    (sym (c.from_commented.ensures (held_view held) stack)) c.goes_lightly-in-Commented.ensures)

pub returns-in-Dashed : goal.returns-in-Dashed
returns-in-Dashed c =
    let held = c.args.held.now in
    let stack = stack_view held.stack.items in
    let result = c.goes_lightly-in-Dashed.result in
    subst (λ (m : Mode). Moves (move c.args.position (held_view held) (mode_view stack m) c.args.c (class_of c.args.c))
    held result) (sym c.in-Dashed.is)
    (subst (λ (o : Option State). Moves o held result)
    (sym (c.from_dashed.ensures (held_view held) stack)) c.goes_lightly-in-Dashed.ensures)

pub returns-in-DashDashed : goal.returns-in-DashDashed
returns-in-DashDashed c =
    let held = c.args.held.now in
    let stack = stack_view held.stack.items in
    let result = c.goes_lightly-in-DashDashed.result in
    subst (λ (m : Mode). Moves (move c.args.position (held_view held) (mode_view stack m) c.args.c (class_of c.args.c))
    held result) (sym c.in-DashDashed.is)
    (subst (λ (o : Option State). Moves o held result)
    (sym (c.from_dash_dashed.ensures (held_view held) stack)) c.goes_lightly-in-DashDashed.ensures)
