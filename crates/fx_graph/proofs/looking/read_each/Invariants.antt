use Rattle.std.proofs.Common.{◌≡◌, take}
use Rattle.fx_base.specs.Names.{numbers}
use Rattle.fx_graph.proofs.LookLemmas.{Looks}
use Rattle.fx_graph.proofs.looking.read_each.Given as goal

abbrev pub invariant-loop-name : goal.invariant-loop-name
invariant-loop-name g l =
    Looks l.fn.lists l.lists (numbers (take l.name-index l.names)) l.values.items l.fn.work.evaluated l.work.evaluated
    × (l.work ≡ record l.fn.work { evaluated = l.work.evaluated })
