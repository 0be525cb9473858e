use Rattle.std.proofs.Common.{◌+◌, ◌-◌, length}
use Rattle.fx_base.specs.Names.{numbers}
use Rattle.fx_store_pairs.specs.Gathering.{KnowsItsNames}
use Rattle.fx_store_pairs.specs.Pairs.{pairs_of}
use Rattle.fx_store_pairs.proofs.Gathered.{Gathers, unmet}
use Rattle.fx_store_pairs.proofs.pairs.Pairs.group.Given as goal

abbrev pub invariant-loop-done : goal.invariant-loop-done
invariant-loop-done l = record {
  gathers : Gathers (pairs_of l.self-inside.pairs.items) l.fn.name.0 (numbers l.members.names.items) l.done;
  known : KnowsItsNames l.members;
}

-- each name that joins meets a pair
abbrev pub decreases-loop-done : goal.decreases-loop-done
decreases-loop-done l =
    unmet (numbers l.members.names.items) (pairs_of l.self-inside.pairs.items)
    + (length (numbers l.members.names.items) - l.done)
