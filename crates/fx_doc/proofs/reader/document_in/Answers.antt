use Rattle.std.proofs.Common.{refl, sym, ◌∙◌}
use Rattle.fx_doc_runs.specs.Views.{stack_view, level_view}
use Rattle.fx_doc_runs.proofs.Trees.{end_child, end_run}
use Rattle.fx_doc.proofs.reader.document_in.Goals as goal

pub returns-in-Some : goal.returns-in-Some
returns-in-Some c = end_child c.args.held.imports.items c.from_vec.result (stack_view c.args.held.stack.items) (level_view c.args.held.level) c.args.held.level.content.items c.pop.new.self.items c.in_ok-piece.piece c.in-Some.root
    (sym c.is_within.ensures ∙ c.if-is_within.false) refl c.in_ok-piece.ensures.items c.in-Some.ensures.child c.from_vec.ensures c.requires

pub returns : goal.returns
returns c = end_run c.args.held.imports.items (stack_view c.args.held.stack.items) (level_view c.args.held.level) c.args.held.level.content.items c.pop.new.self.items c.in_ok-piece.piece
    (sym c.is_within.ensures ∙ c.if-is_within.false) refl c.in_ok-piece.ensures.items c.in-None.ensures.run c.requires
