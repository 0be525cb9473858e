use Rattle.std.proofs.Common.{ap, sym, ◌∙◌}
use Rattle.fx_doc_runs.specs.Views.{stack_view, open_name}
use Rattle.fx_doc_runs.proofs.Names.{so}
use Rattle.fx_doc_runs.proofs.Stacks.{last_open}
use Rattle.fx_doc_runs.proofs.modes.Held.is_open_name.Goals as goal

pub returns : goal.returns
returns c = λ e.
    ap (λ os. open_name (stack_view os)) (sym c.deref.ensures.value)
    ∙ (last_open c.deref.result.now c.in-Some.open.now c.in-Some.ensures.item.3.0 c.in-Some.ensures.item.1 ∙ so c.equals.result c.equals.ensures e)
