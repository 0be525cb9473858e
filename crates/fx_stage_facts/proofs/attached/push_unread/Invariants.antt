use Rattle.std.proofs.Common.{◌≡◌, ◌+◌, ◌++◌, drop, filter}
use Rattle.fx_base.specs.Names.{numbers}
use Rattle.fx_graph_model.specs.Unread.{marked}
use Rattle.fx_kinds.specs.Properties.{properties_of}
use Rattle.fx_stage_facts.specs.Attached.{displayed_from}
use Rattle.fx_stage_facts.proofs.attached.push_unread.Given as goal

-- what is done, with what is left
abbrev pub invariant-loop-place : goal.invariant-loop-place
invariant-loop-place l =
    numbers l.names.items
    ++ filter (marked l.store.unread) (displayed_from (l.node.first + l.place) (drop l.place (properties_of l.node.class)))
    ≡ numbers l.fn.names.items
    ++ filter (marked l.store.unread) (displayed_from l.node.first (properties_of l.node.class))
