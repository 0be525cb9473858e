use Rattle.std.proofs.Common.{ap, sym, ◌∙◌}
use lib.Dec.{ltb}
use Rattle.fx_doc_runs.proofs.Stacks.{depth_is}
use Rattle.fx_doc_runs.proofs.modes.Held.has_depth.Goals as goal

pub returns : goal.returns
returns c = ap (λ n. ltb n 128) (sym (depth_is c.args.self.now.stack.items c.len.result (c.len.ensures ∙ c.args.self.now.stack.ok.0)))
