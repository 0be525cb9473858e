use Rattle.std.proofs.Common.{◌≡◌, drop}
use Rattle.fx_base.specs.Names.{numbers}
use Rattle.fx_graph_model.specs.Changes.{clear_all}
use Rattle.fx_graph.proofs.foreseeing.clear_marks.Given as goal

abbrev pub invariant-loop-name : goal.invariant-loop-name
invariant-loop-name l =
    clear_all (numbers (drop l.name-index l.names)) l.unread ≡ clear_all (numbers l.names) l.fn.unread
