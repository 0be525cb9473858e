use Rattle.std.proofs.Common.{map, ap}
use Rattle.std.specs.String.{string_bytes}
use Rattle.fx_doc_runs.specs.Views.{level_view, head_view, attr_view}
use Rattle.fx_doc_runs.proofs.Trees.{level_child}
use Rattle.fx_doc_runs.proofs.modes.Level.add_child.Goals as goal

pub returns : goal.returns
returns c = level_child c.end_run.new.self.content.items c.push.new.self.items _ (string_bytes c.end_run.new.self.run.text) c.end_run.new.self.first c.end_run.new.self.run.count (level_view c.args.self.now) (head_view c.args.head)
    c.in_ok-push.ensures.items c.in_ok-end_run.ensures (ap (λ a. record { name = c.args.head.name; attributes = map attr_view a; position = c.args.head.position }) c.from_vec.ensures)
