use Rattle.std.proofs.Common.{◌∙◌}
use Rattle.fx_doc.proofs.Depths.{deep_view, flat_view}
use Rattle.fx_doc.proofs.reader.deep_position.Goals as goal

pub returns-then-len-ge-DEPTH_LIMIT : goal.returns-then-len-ge-DEPTH_LIMIT
returns-then-len-ge-DEPTH_LIMIT c = deep_view c.args.reader.now c.len.result c.in-Naming.at c.in-Naming.field-1 c.in-Naming.is (c.len.ensures ∙ c.args.reader.now.held.stack.ok.0) c.if-len-ge-DEPTH_LIMIT.true

pub returns-else-len-ge-DEPTH_LIMIT : goal.returns-else-len-ge-DEPTH_LIMIT
returns-else-len-ge-DEPTH_LIMIT c = flat_view c.args.reader.now c.len.result (c.len.ensures ∙ c.args.reader.now.held.stack.ok.0) c.if-len-ge-DEPTH_LIMIT.false
