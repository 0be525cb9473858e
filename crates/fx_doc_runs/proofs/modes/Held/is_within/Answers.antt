use Rattle.std.proofs.Common.{not, ap, ◌∙◌}
use Rattle.fx_doc_runs.proofs.Trees.{open_is}
use Rattle.fx_doc_runs.proofs.modes.Held.is_within.Goals as goal

pub returns : goal.returns
returns c = ap not c.is_empty.ensures ∙ open_is c.args.self.now.stack.items c.args.self.now.stack.len c.args.self.now.stack.ok.0
