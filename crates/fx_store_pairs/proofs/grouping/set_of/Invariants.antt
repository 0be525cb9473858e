use Rattle.std.proofs.Common.{take}
use Rattle.fx_base.specs.Names.{numbers}
use Rattle.fx_store_pairs.specs.Gathering.{HasJust}
use Rattle.fx_store_pairs.proofs.grouping.set_of.Given as goal

abbrev pub invariant-loop-name : goal.invariant-loop-name
invariant-loop-name l = HasJust l.set (numbers (take l.name-index l.names))
