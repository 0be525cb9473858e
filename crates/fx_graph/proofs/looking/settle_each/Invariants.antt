-- the names so far were read, whatever their values are
use Rattle.std.proofs.Common.{◌≡◌, List, take}
use Rattle.fx_base.specs.Names.{numbers}
use Rattle.fx_base.specs.declared.values.Value.{Value}
use Rattle.fx_graph.proofs.LookLemmas.{Looks}
use Rattle.fx_graph.proofs.looking.settle_each.Given as goal

abbrev pub invariant-loop-name : goal.invariant-loop-name
invariant-loop-name g l =
    ((values : List Value)
    × Looks l.fn.lists l.lists (numbers (take l.name-index l.names)) values l.fn.work.evaluated l.work.evaluated)
    × (l.work ≡ record l.fn.work { evaluated = l.work.evaluated })
