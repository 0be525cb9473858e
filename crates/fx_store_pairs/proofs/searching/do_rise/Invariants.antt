use Rattle.std.proofs.Common.{◌≡◌, drop}
use Rattle.fx_base.specs.Names.{numbers}
use Rattle.fx_store_pairs.specs.Rising.{rises_from}
use Rattle.fx_store_pairs.proofs.searching.do_rise.Given as goal

abbrev pub invariant-loop-name : goal.invariant-loop-name
invariant-loop-name l =
    rises_from l.last (numbers (drop l.name-index l.names)) ≡ rises_from 0 (numbers l.names)
