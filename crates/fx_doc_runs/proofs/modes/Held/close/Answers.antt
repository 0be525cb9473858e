use Rattle.std.proofs.Common.{ap, ◌∙◌, subst, Option}
use Rattle.fx_doc_grammar.specs.Grammar.{Level as LevelView, closed, one_child}
use Rattle.fx_doc_grammar.specs.Machine.{State}
use Rattle.fx_doc_runs.specs.Views.{nodes_of, level_view, head_view, stack_view, Moves}
use Rattle.fx_doc_runs.specs.declared.modes.Level.{Level}
use Rattle.fx_doc_runs.proofs.Trees.{stack_push, close_is}
use Rattle.fx_doc_runs.proofs.modes.Held.close.Goals as goal

pub returns : goal.returns
returns c = subst (λ (o : Option State). Moves o (record { imports = c.args.self.now.imports; stack = c.pop.new.self; level = c.add_child.new.self }) c.goes.result)
    (close_is c.args.self.now.imports.items (stack_view c.args.self.now.stack.items) (stack_view c.pop.new.self.items) (level_view c.in-Some.open.before) (head_view c.in-Some.open.head) (level_view c.args.self.now.level) (level_view c.add_child.new.self) (nodes_of c.end_run.new.self.content.items)
    (ap stack_view c.in-Some.ensures.items ∙ stack_push c.pop.new.self.items c.in-Some.open)
    (c.in_ok-add_child.ensures ∙ ap (λ (l : Level). one_child (level_view l) (head_view c.in-Some.open.head) (nodes_of c.end_run.new.self.content.items)) c.replace-inside.ensures.after)
    (ap (λ (l : LevelView). l.nodes) c.in_ok-end_run.ensures ∙ ap (λ (l : Level). closed (level_view l)) c.replace-inside.ensures.value))
    c.goes.ensures
