use Rattle.std.proofs.Common.{◌≡◌, take}
use Rattle.fx_base.specs.Names.{numbers}
use Rattle.fx_stage_facts.specs.Unread.{unread_of}
use Rattle.fx_stage_facts.proofs.attached.unread_names.Given as goal

-- those of the nodes so far
abbrev pub invariant-loop-place : goal.invariant-loop-place
invariant-loop-place l = numbers l.names.items ≡ unread_of l.store.unread l.graph.table (take l.place l.keys)
