use Rattle.std.proofs.Common.{ap, ◌∙◌}
use Rattle.fx_doc_grammar.specs.Machine.{Opened}
use Rattle.fx_doc_runs.specs.Views.{level_view, head_view, stack_view}
use Rattle.fx_doc_runs.specs.declared.modes.Level.{Level}
use Rattle.fx_doc_runs.proofs.Trees.{stack_push, held_same}
use Rattle.fx_doc_runs.proofs.modes.Held.open.Goals as goal

pub returns : goal.returns
returns c = held_same c.args.self.now.imports.items (stack_view c.push.new.self.items) _ (level_view c.replace-before.new.dest) _
    (ap stack_view c.in_ok-push.ensures.items ∙ (stack_push c.args.self.now.stack.items _ ∙ ap (λ (l : Level). Opened (stack_view c.args.self.now.stack.items) (level_view l) (head_view c.args.head)) c.replace-before.ensures.value))
    (ap level_view c.replace-before.ensures.after ∙ c.new.ensures)
