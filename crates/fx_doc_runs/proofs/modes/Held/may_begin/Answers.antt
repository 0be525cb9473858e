use Rattle.std.proofs.Common.{◌||◌, sym, ap, ◌∙◌}
use Rattle.fx_doc_grammar.specs.Machine.{is_nothing}
use Rattle.fx_doc_runs.specs.Views.{nodes_of}
use Rattle.fx_doc_runs.proofs.Trees.{nothing_is}
use Rattle.fx_doc_runs.proofs.modes.Held.may_begin.Goals as goal

pub returns-else-is_within : goal.returns-else-is_within
returns-else-is_within c = c.is_empty.ensures ∙ (nothing_is c.args.self.now.level.content.items c.args.self.now.level.content.len c.args.self.now.level.content.ok.0
    ∙ ap (λ y. y || is_nothing (nodes_of c.args.self.now.level.content.items)) (sym c.if-is_within.false ∙ c.is_within.ensures))
