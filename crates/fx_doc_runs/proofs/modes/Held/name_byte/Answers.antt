use Rattle.std.proofs.Common.{sym, ◌∙◌, ap}
use Rattle.fx_doc_runs.specs.Views.{stack_view, open_name}
use Rattle.fx_doc_runs.proofs.Stacks.{last_open, byte_found, byte_none}
use Rattle.fx_doc_runs.proofs.modes.Held.name_byte.Goals as goal

pub returns-then-at-name-clause-found : goal.returns-then-at-name-clause-found
returns-then-at-name-clause-found c =
    byte_found (open_name (stack_view c.args.self.now.stack.items)) c.as_bytes-name.result.now c.args.at
    (ap (λ os. open_name (stack_view os)) (sym c.deref.ensures.value) ∙ (last_open c.deref.result.now c.in_ok-open.open.now c.in_ok-open.ensures.item.3.0 c.in_ok-open.ensures.item.1 ∙ (sym c.as_str.ensures.text ∙ sym c.as_bytes-name.ensures.value)))
    c.if-at-name.true

pub returns-else-at-name-clause-none : goal.returns-else-at-name-clause-none
returns-else-at-name-clause-none c =
    byte_none (open_name (stack_view c.args.self.now.stack.items)) c.as_bytes-name.result.now c.args.at
    (ap (λ os. open_name (stack_view os)) (sym c.deref.ensures.value) ∙ (last_open c.deref.result.now c.in_ok-open.open.now c.in_ok-open.ensures.item.3.0 c.in_ok-open.ensures.item.1 ∙ (sym c.as_str.ensures.text ∙ sym c.as_bytes-name.ensures.value)))
    c.if-at-name.false
